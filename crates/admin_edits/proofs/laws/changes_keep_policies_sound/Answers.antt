use Rattle.admin_edits.proofs.Keeping.{changes_keep_policies_sound}
use Rattle.admin_edits.proofs.laws.changes_keep_policies_sound.Goals as goal

pub returns : goal.returns
returns c = changes_keep_policies_sound
