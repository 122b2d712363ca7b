use Rattle.std.proofs.Common.{ap, subst, sym, ◌∙◌}
use Rattle.wf_talk.specs.declared.reply.Reply.TheVariants as reply
use Rattle.wf_board.specs.Boards.{state_on}
use Rattle.transcript_audit.specs.Auditor.{ComesNext, state_now}
use Rattle.transcript_audit.specs.Keeping.{entry_next}
use Rattle.transcript_audit.proofs.Entering.{state_again}
use Rattle.transcript_audit.proofs.auditor.Auditor.enter_again.Goals as goal

pub add-requires-clause-next : goal.add-requires-clause-next
add-requires-clause-next c =
    subst (λ a. ComesNext a (entry_next a c.args.job.now (reply.Again c.args.rounds c.args.at))) (sym (c.reserve.ensures.same ∙ c.self.view_is))
    (c.may_retry.ensures.0 c.if-not-may_retry.false)

pub invariant_of-self : goal.invariant_of-self
invariant_of-self c = c.self.invariant ∙ ap state_now (sym c.reserve.ensures.same)

pub invariant_of-self-2 : goal.invariant_of-self-2
invariant_of-self-2 c =
    state_again c.reserve.new.self.audit (state_on c.self.inside.board) c.args.job.now c.args.rounds c.args.at
    (c.self.invariant ∙ ap state_now (sym c.reserve.ensures.same)) ∙ ap state_now (sym c.add.ensures)
