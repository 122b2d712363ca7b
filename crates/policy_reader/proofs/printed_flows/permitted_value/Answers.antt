use Rattle.std.specs.FinSet as set
use Rattle.policy_reader.proofs.Prints.{map, length, ap, sym, arith, ℕ, ◌∙◌, string, name_at, chosen}
use Rattle.policy_reader.proofs.Writing.{written_to, names_next, names_skip, when_ok, seen}
use Rattle.policy_reader.proofs.printed_flows.permitted_value.Goals as goal
use Rattle.policy_reader.proofs.printed_flows.permitted_value.Goals.{else-permits-via-then-permits+else-is_err, else-permits-via-else-permits}

pub returns : goal.returns
returns c =
    let names = c.args.roles.now.names in
    written_to (λ m. map (λ n. string (name_at names n)) (chosen m (λ r. set.contains c.args.flow.now.permits (r, c.args.s)))) c.roles.values c.roles.r
    (length names) c.roles.invariant (omega (arith, c.roles-test.false, c.len-r-end.ensures.count))

pub roles-preserved : goal.roles-preserved
roles-preserved c =
    let names = c.args.roles.now.names in
    let test = λ (r : ℕ). set.contains c.args.flow.now.permits (r, c.args.s) in
    let before = seen c.roles.values in
    let r = c.roles.r in
    elim c.else-permits.branch [
      | else-permits-via-then-permits+else-is_err w ↦
          names_next names test r before (seen c.else-permits.values) (sym c.permits.ensures ∙ w.if-permits.true) c.roles.invariant
          (ap seen w.values-is ∙ when_ok w.push_name.result _ (sym w.is_err.ensures.value ∙ w.if-is_err.false) w.push_name.ensures)
      | else-permits-via-else-permits w ↦
          names_skip names test r before (seen c.else-permits.values) (sym c.permits.ensures ∙ w.if-permits.false) c.roles.invariant (ap seen w.values-is)
    ]
