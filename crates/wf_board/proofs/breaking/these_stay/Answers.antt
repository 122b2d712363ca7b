use Rattle.wf_board.specs.Laws.Kept.{IsPlanned}
use Rattle.wf_board.proofs.Unbroken.{each_more}
use Rattle.wf_board.proofs.breaking.these_stay.Goals as goal

pub rows-preserved : goal.rows-preserved
rows-preserved c =
    each_more (λ r. IsPlanned c.args.revision.now.after.now r.case r.plan) c.args.rows.now c.rows.i c.index-rows-i.result c.rows-test.true c.index-rows-i.is
    c.rows.invariant (c.stays.ensures c.if-not-stays.false)
