use Rattle.tell_run.proofs.Telling.{judged_read}
use Rattle.tell_run.proofs.policy.tell_file.Goals as goal

pub returns-in-Ok : goal.returns-in-Ok
returns-in-Ok c = judged_read c.args.bytes.now c.in-Ok.p c.tell_policy.result c.in-Ok.ensures.policy c.tell_policy.ensures
