use Rattle.std.proofs.Common.{refl}
use Rattle.tell_run.specs.Why.{TellsWhy}
use Rattle.tell_run.proofs.Filed.{untold_once}
use Rattle.tell_run.proofs.run.run_asked.Goals as goal

pub returns-in-Why-clause-runs : goal.returns-in-Why-clause-runs
returns-in-Why-clause-runs g c =
    rw c.in-Why.is (untold_once c.in-Why.policy.now (λ _ p. TellsWhy p c.in-Why.flow.now) (g.F.Shelf.file c.args.outside.now.shelf.now) _ _ _ _ _ _
    c.answer_once.ensures.answers)

pub returns-in-Told-clause-runs : goal.returns-in-Told-clause-runs
returns-in-Told-clause-runs g c =
    rw c.in-Told.is (record { unread = refl; loads = c.run_told.ensures.loads; writes = c.run_told.ensures.writes }, c.run_told.ensures.tells)
