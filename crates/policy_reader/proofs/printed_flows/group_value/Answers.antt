use Rattle.policy_reader.proofs.Prints.{map, length, ap, sym, arith, ◌∙◌, string, name_at, chosen, is_member}
use Rattle.policy_reader.proofs.Writing.{written_to, names_next, names_skip, when_ok, seen}
use Rattle.policy_reader.proofs.printed_flows.group_value.Goals as goal
use Rattle.policy_reader.proofs.printed_flows.group_value.Goals.{else-has-via-then-has+else-is_err, else-has-via-else-has}

pub returns-clause-value : goal.returns-clause-value
returns-clause-value c =
    let names = c.args.steps.now.names in
    written_to (λ m. map (λ n. string (name_at names n)) (chosen m (is_member c.args.group.now))) c.steps.values c.steps.s (length names) c.steps.invariant
    (omega (arith, c.steps-test.false, c.len-s-end.ensures.count))

pub steps-preserved : goal.steps-preserved
steps-preserved c =
    let names = c.args.steps.now.names in
    let test = is_member c.args.group.now in
    let before = seen c.steps.values in
    let s = c.steps.s in
    elim c.else-has.branch [
      | else-has-via-then-has+else-is_err w ↦
          names_next names test s before (seen c.else-has.values) (sym c.has.ensures.flag ∙ w.if-has.true) c.steps.invariant
          (ap seen w.values-is ∙ when_ok w.push_name.result _ (sym w.is_err.ensures.value ∙ w.if-is_err.false) w.push_name.ensures)
      | else-has-via-else-has w ↦
          names_skip names test s before (seen c.else-has.values) (sym c.has.ensures.flag ∙ w.if-has.false) c.steps.invariant (ap seen w.values-is)
    ]
