use Rattle.std.proofs.Common.{sym, subst}
use Rattle.case_record.specs.Cases.{CaseShape}
use Rattle.wf_board.specs.Edition.{IsPlanOf}
use Rattle.case_views.specs.Seeing.{IsTold}
use Rattle.case_views.proofs.stranded.stranded_with.Goals as goal

pub stays_completable-requires-clause-valid : goal.stays_completable-requires-clause-valid
stays_completable-requires-clause-valid c = subst (λ (k : CaseShape). IsPlanOf c.args.revision.now.before.now k c.args.kept.now) (sym c.case.ensures)
    c.requires.valid

pub returns : goal.returns
returns c =
    let q = c.args.revision.now.after.now in
    record {
      number = c.number_unless.ensures q c.requires.live
          (subst (λ (k : CaseShape). IsTold q k c.in_ok-completable.completable) c.case.ensures c.in_ok-completable.ensures.told);
      right = c.in_ok-completable.ensures.right;
    }
