use Rattle.admin_edits.proofs.Keeping.{changes_keep_names}
use Rattle.admin_edits.proofs.laws.changes_keep_names.Goals as goal

pub returns : goal.returns
returns c = changes_keep_names
