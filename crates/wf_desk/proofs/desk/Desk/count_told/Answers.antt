use Rattle.std.proofs.Common.{length, refl, ap, ◌∙◌}
use Rattle.wf_desk.proofs.OneList.{all_told}
use Rattle.wf_desk.proofs.desk.Desk.count_told.Goals as goal

pub returns : goal.returns
returns c = c.len.ensures ∙ ap length (all_told _ c.args.self.now c.self.inside.jobs c.self.inside.first c.self.view_is refl refl)
