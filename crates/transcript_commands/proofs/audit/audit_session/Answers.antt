use Rattle.std.proofs.Common.{[], subst}
use Rattle.std.specs.Prelude.{IfOk}
use Rattle.wf_outside.proofs.OutsideLaws.{nothing_taken}
use Rattle.transcript_audit.specs.Auditor.{AuditShape}
use Rattle.transcript_commands.specs.Finding.{HasFound}
use Rattle.transcript_commands.proofs.audit.audit_session.Goals as goal

pub returns-in-Ok-clause-found : goal.returns-in-Ok-clause-found
returns-in-Ok-clause-found g c =
    subst (λ (a : AuditShape). IfOk c.audit_input.result (λ f. HasFound a f (g.S.Source.left c.args.source.now) (g.S.Source.left c.audit_input.new.source)))
    c.in-Ok.ensures.first c.audit_input.ensures.found

pub returns-in-Err-clause-input : goal.returns-in-Err-clause-input
returns-in-Err-clause-input g c = ([], nothing_taken (g.S.Source.left c.args.source.now))
