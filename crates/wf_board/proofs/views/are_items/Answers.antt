use Rattle.std.proofs.Common.{rules, sym, ◌∙◌}
use Rattle.std.specs.Cmp.Lexicographic.{pointwise_decides}
use Rattle.wf_board.proofs.views.are_items.Goals as goal

pub returns : goal.returns
returns c =
    let decides = pointwise_decides (λ x y. search rules) c.args.some.now c.args.others.now in
    (λ told. decides.0 (sym c.eq.ensures ∙ told), λ same. c.eq.ensures ∙ decides.1 same)
