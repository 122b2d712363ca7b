use Rattle.std.proofs.Common.{sym, ap, ◌∙◌, ◌++◌, ◌∷◌, [], map}
use Rattle.policy_reader.proofs.Prints.{view, pair_data}
use Rattle.policy_reader.proofs.Writing.{row_more, row_skip, when_ok, seen}
use Rattle.policy_reader.proofs.printed_flows.push_row.Goals as goal
use Rattle.policy_reader.proofs.printed_flows.push_row.Goals.{else-ordered-via-then-ordered+else-is_err, else-ordered-via-else-ordered}

pub steps-preserved : goal.steps-preserved
steps-preserved c =
    let flow = c.args.flow.now in
    let f = pair_data flow.steps in
    let before = map view c.args.values.now.items in
    let s = c.args.s in
    let t = c.steps.t in
    elim c.else-ordered.branch [
      | else-ordered-via-then-ordered+else-is_err w ↦
          ap seen w.values-is ∙ when_ok w.push_pair.result _ (sym w.is_err.ensures.value ∙ w.if-is_err.false) w.push_pair.ensures ∙
          ap (λ names. seen c.steps.values ++ pair_data names (s, t) ∷ []) w.steps-then-ordered.ensures.names ∙
          ap (λ ds. ds ++ f (s, t) ∷ []) c.steps.invariant ∙ sym (row_more f before s t flow.order (sym c.ordered.ensures ∙ w.if-ordered.true))
      | else-ordered-via-else-ordered w ↦
          ap seen w.values-is ∙ c.steps.invariant ∙ sym (row_skip f before s t flow.order (sym c.ordered.ensures ∙ w.if-ordered.false))
    ]
