use Rattle.wf_outside.proofs.OutsideLaws.{part_none}
use Rattle.wf_server.proofs.writing.write_one.Goals as goal

pub returns-in_err-push_line-clause-part : goal.returns-in_err-push_line-clause-part
returns-in_err-push_line-clause-part g c = part_none _ _
