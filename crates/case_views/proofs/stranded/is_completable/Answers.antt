use Rattle.std.proofs.Common.{sym, subst}
use Rattle.case_views.specs.Seeing.{IsTold}
use Rattle.case_views.proofs.Seeing.{told_of}
use Rattle.case_views.proofs.stranded.is_completable.Goals as goal

pub returns : goal.returns
returns c =
    let p = c.args.p.now in
    let k = c.args.case.now in
    let told =
    subst (IsTold p k) (sym c.is_plan-completable.ensures) (told_of p k c.in_ok-outcome.outcome c.admin-sound.ensures.sound c.in_ok-outcome.ensures) in
    record { told = told; right = c.keep.ensures p c.requires.right told }
