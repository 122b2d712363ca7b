use Rattle.policy_reader.proofs.Prints.{map, length, ap, sym, arith, ◌∙◌, ◌++◌, ◌∷◌, [], string, name_at, chosen, has_role}
use Rattle.policy_reader.proofs.Writing.{written_to, names_next, names_skip, when_ok, seen}
use Rattle.policy_reader.proofs.printed_rosters.held_value.Goals as goal
use Rattle.policy_reader.proofs.printed_rosters.held_value.Goals.{else-has-via-then-has+else-is_err, else-has-via-else-has}

pub returns : goal.returns
returns c =
    let roster = c.args.roster.now in
    written_to (λ m. map (λ n. string (name_at roster.roles n)) (chosen m (has_role roster c.args.u))) c.roles.values c.roles.r (length roster.roles)
    c.roles.invariant (omega (arith, c.roles-test.false, c.len-r-end.ensures.count, ap length c.roles-2.ensures.names))

pub roles-preserved : goal.roles-preserved
roles-preserved c =
    let names = c.args.roster.now.roles in
    let test = has_role c.args.roster.now c.args.u in
    let before = seen c.roles.values in
    let r = c.roles.r in
    elim c.else-has.branch [
      | else-has-via-then-has+else-is_err w ↦
          names_next names test r before (seen c.else-has.values) (sym c.has.ensures ∙ w.if-has.true) c.roles.invariant (
          ap seen w.values-is ∙ when_ok w.push_name.result _ (sym w.is_err.ensures.value ∙ w.if-is_err.false) w.push_name.ensures ∙
          ap (λ ns. before ++ string (name_at ns r) ∷ []) w.roles-then-has.ensures.names)
      | else-has-via-else-has w ↦
          names_skip names test r before (seen c.else-has.values) (sym c.has.ensures ∙ w.if-has.false) c.roles.invariant (ap seen w.values-is)
    ]
