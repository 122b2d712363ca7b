use Rattle.wf_desk.proofs.Scheduling.{goes_on}
use Rattle.wf_desk.proofs.desk.Desk.run_schedule.Goals as goal

pub returns-clause-gone : goal.returns-clause-gone
returns-clause-gone g c =
    goes_on c.args.self.now c.run_all.new.desk c.journal-before.ensures.sound c.journal-after.ensures.sound c.run_all.ensures.grown
