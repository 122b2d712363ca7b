use Rattle.wf_board.proofs.Unbroken.{planned_part, planned_whole}
use Rattle.wf_board.proofs.breaking.all_stay.Goals as goal

pub these_stay-requires : goal.these_stay-requires
these_stay-requires c = planned_part c.args.revision.now.before.now c.args.cases.now.rows c.open_part.result.now c.open_part.ensures c.requires

pub returns : goal.returns
returns c = λ stay.
    planned_whole c.args.revision.now.after.now c.args.cases.now.rows c.open_part.result.now c.open_part.ensures c.live-planned.ensures.kept.planned
    (c.these_stay.ensures stay)
