use Rattle.policy_reader.proofs.Prints.{ap, sym, ◌∙◌, with_member, permit_entry}
use Rattle.policy_reader.proofs.Writing.{table_more, when_ok}
use Rattle.policy_reader.proofs.printed_flows.permits_value.Goals as goal

pub steps-preserved : goal.steps-preserved
steps-preserved c =
    let entry = permit_entry c.args.roles.now.names c.args.flow.now in
    let s = c.steps.s in
    when_ok c.put_permit.result _ (sym c.is_err.ensures.value ∙ c.if-is_err.false) c.put_permit.ensures ∙
    ap (with_member (entry s).0 (entry s).1) c.steps.invariant ∙ sym (table_more s entry)
