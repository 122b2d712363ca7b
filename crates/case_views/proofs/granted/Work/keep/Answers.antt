use Rattle.std.proofs.Common.{sym, subst}
use Rattle.std.specs.List.{All}
use Rattle.case_views.specs.Granting.{TellsSteps}
use Rattle.case_views.specs.declared.granted.WorkOf.{WorkOf}
use Rattle.case_views.proofs.Seeing.{all_with}
use Rattle.case_views.proofs.granted.Work.keep.Goals as goal

pub returns-then-len-lt-REMEMBERED : goal.returns-then-len-lt-REMEMBERED
returns-then-len-lt-REMEMBERED c = λ p u right told.
    subst (All (λ (t : WorkOf). TellsSteps p u t.case t.steps)) (sym c.push.ensures.items)
    (all_with (λ (t : WorkOf). TellsSteps p u t.case t.steps) c.args.self.now.told.items _ _ right told)
