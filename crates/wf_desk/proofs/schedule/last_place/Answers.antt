use Rattle.std.proofs.Common.{◌∙◌}
use Rattle.wf_desk.proofs.Scheduling.{last_placed}
use Rattle.wf_desk.proofs.schedule.last_place.Goals as goal

pub returns : goal.returns
returns c =
    last_placed c.args.desk.now c.as_slice-entries.result.now c.index-entries-entries.result c.journal.ensures.sound
    (c.as_slice-entries.ensures ∙ c.journal.ensures.entries) c.requires
