use Rattle.policy_reader.proofs.Prints.{map, length, ap, sym, arith, ◌∙◌, ◌++◌, pair_data, row, rows}
use Rattle.policy_reader.proofs.Writing.{written_to, rows_more, when_ok}
use Rattle.policy_reader.proofs.printed_flows.order_value.Goals as goal

pub returns : goal.returns
returns c =
    let flow = c.args.flow.now in
    written_to (λ m. map (pair_data flow.steps) (rows m (length flow.steps) flow.order)) c.steps.values c.steps.s (length flow.steps) c.steps.invariant
    (omega (arith, c.steps-test.false, c.len-s-end.ensures.count, ap length c.steps-2.ensures.names))

pub steps-preserved : goal.steps-preserved
steps-preserved c =
    let flow = c.args.flow.now in
    let f = pair_data flow.steps in
    let n = length flow.steps in
    let s = c.steps.s in
    when_ok c.push_row.result _ (sym c.is_err.ensures.value ∙ c.if-is_err.false) c.push_row.ensures ∙
    ap (λ ds. ds ++ map f (row s n flow.order)) c.steps.invariant ∙ sym (rows_more f s n flow.order)
