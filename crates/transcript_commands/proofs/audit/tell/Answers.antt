use Rattle.std.proofs.Common.{sym, ap, ◌∙◌}
use Rattle.wf_outside.specs.Laws.Outside.{with_bytes}
use Rattle.wf_outside.proofs.OutsideLaws.{nothing_put}
use Rattle.transcript_commands.specs.declared.finding.Finding.{Finding}
use Rattle.transcript_commands.specs.Finding.{finding_text}
use Rattle.transcript_commands.proofs.audit.tell.Goals as goal

pub returns-in-TooLong-clause-told : goal.returns-in-TooLong-clause-told
returns-in-TooLong-clause-told g c =
    let held = g.K.Sink.held c.args.sink.now in
    sym (ap (λ (f : Finding). with_bytes held (finding_text f)) c.in-TooLong.is ∙ nothing_put held)
