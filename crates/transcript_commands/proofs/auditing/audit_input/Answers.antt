use Rattle.std.proofs.Common.{[]}
use Rattle.wf_outside.proofs.OutsideLaws.{nothing_taken}
use Rattle.transcript_commands.proofs.auditing.audit_input.Goals as goal

pub returns-in-Err-clause-taken : goal.returns-in-Err-clause-taken
returns-in-Err-clause-taken g c = ([], nothing_taken (g.S.Source.left c.args.source.now))
