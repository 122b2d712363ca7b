use Rattle.std.proofs.Common.{ap, ◌∙◌, IfOk, IfSome}
use Rattle.entry_reader.specs.Laws.Lines.{HasReply}
use Rattle.transcript_audit.specs.Auditor.{state_now}
use Rattle.transcript_audit.proofs.Entering.{known_now}
use Rattle.transcript_audit.proofs.auditor.Auditor.reply_quickly.Goals as goal

pub returns-clause-reply : goal.returns-clause-reply
returns-clause-reply c =
    known_now (λ p flows. IfOk c.read_plain.result (λ o. IfSome o (HasReply p flows c.args.ask.now c.args.line.now))) c.self.inside.board c.args.self.now
    c.policy.result.now c.cases.result.now c.policy.ensures.policy c.cases.ensures.cases
    (c.self.invariant ∙ ap state_now c.self.view_is) c.read_plain.ensures.reply
