use Rattle.std.proofs.Common.{sym, ◌∙◌}
use Rattle.std.specs.Cmp.Lexicographic.{bytes_decides}
use Rattle.wf_board.proofs.views.are_cases.Goals as goal

pub returns : goal.returns
returns c =
    let decides = bytes_decides c.args.some.now c.args.others.now in
    (λ told. decides.0 (sym c.eq.ensures ∙ told), λ same. c.eq.ensures ∙ decides.1 same)
