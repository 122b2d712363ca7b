use Rattle.std.proofs.Common.{refl}
use Rattle.wf_desk.proofs.OneList.{all_told}
use Rattle.wf_desk.proofs.desk.Desk.into_told.Goals as goal

pub returns-clause-jobs : goal.returns-clause-jobs
returns-clause-jobs c = all_told _ c.args.self c.self.inside.jobs c.self.inside.first c.self.view_is refl refl
