use Rattle.wf_outside.proofs.OutsideLaws.{part_none}
use Rattle.cnf_export.proofs.writing.write_clauses.Goals as goal

pub returns-in_err-push_header-clause-part : goal.returns-in_err-push_header-clause-part
returns-in_err-push_header-clause-part g c = part_none _ _
