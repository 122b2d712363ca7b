use Rattle.std.proofs.Common.{sym, subst}
use Rattle.case_views.specs.Deciding.{IsVerdictOf}
use Rattle.case_views.proofs.Deciding.{tree_verdict}
use Rattle.case_views.proofs.decider.verdict_of.Goals as goal

pub returns-in-Refuted : goal.returns-in-Refuted
returns-in-Refuted c = subst (λ o. IsVerdictOf o c.verdict_by.result) (sym c.in-Refuted.is)
    (tree_verdict c.in-Refuted.tree c.new.result c.verdict_by.result c.new.ensures c.verdict_by.ensures)
