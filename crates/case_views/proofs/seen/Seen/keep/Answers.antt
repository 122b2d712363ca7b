use Rattle.std.proofs.Common.{sym, subst}
use Rattle.std.specs.List.{All}
use Rattle.case_views.specs.Seeing.{IsTold}
use Rattle.case_views.specs.declared.seen.Told.{Told}
use Rattle.case_views.proofs.Seeing.{all_with}
use Rattle.case_views.proofs.seen.Seen.keep.Goals as goal

pub returns-then-len-lt-REMEMBERED : goal.returns-then-len-lt-REMEMBERED
returns-then-len-lt-REMEMBERED c = λ p right told.
    subst (All (λ (t : Told). IsTold p t.case t.completable)) (sym c.push.ensures.items)
    (all_with (λ (t : Told). IsTold p t.case t.completable) c.args.self.now.told.items _ _ right told)
