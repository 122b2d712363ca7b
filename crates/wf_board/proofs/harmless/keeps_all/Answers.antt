use Rattle.std.proofs.Common.{sym, subst, ◌∙◌}
use Rattle.wf_board.specs.Taking.{KeepsAll}
use Rattle.wf_board.proofs.Unhurt.{harmless_keeps}
use Rattle.wf_board.proofs.harmless.keeps_all.Goals as goal

pub returns-then-is_harmless : goal.returns-then-is_harmless
returns-then-is_harmless c = λ is.
    subst (KeepsAll c.args.revision.now.before.now c.args.revision.now.amendment.now c.args.cases.now.rows) (sym c.args.revision.now.made)
    (harmless_keeps c.args.revision.now.before.now c.args.revision.now.amendment.now c.args.cases.now.rows c.args.revision.now.allowed.found
    (sym c.is_harmless.ensures ∙ c.if-is_harmless.true)
    c.requires)
