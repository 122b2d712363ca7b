use Rattle.policy_reader.proofs.Prints.{ap, sym, ◌∙◌, with_member, user_entry}
use Rattle.policy_reader.proofs.Writing.{table_more, when_ok}
use Rattle.policy_reader.proofs.printed_rosters.users_value.Goals as goal

pub users-preserved : goal.users-preserved
users-preserved c =
    let entry = user_entry c.args.roster.now in
    let u = c.users.u in
    when_ok c.put_user.result _ (sym c.is_err.ensures.value ∙ c.if-is_err.false) c.put_user.ensures ∙
    ap (with_member (entry u).0 (entry u).1) c.users.invariant ∙ sym (table_more u entry)
