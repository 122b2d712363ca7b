use Rattle.std.proofs.Common.{ap, subst, sym, ◌∙◌}
use Rattle.wf_board.specs.Boards.{state_on}
use Rattle.transcript_audit.specs.Auditor.{ComesNext, state_now}
use Rattle.transcript_audit.specs.Keeping.{entry_next}
use Rattle.transcript_audit.proofs.Entering.{edits_few, state_next, step_next}
use Rattle.transcript_audit.proofs.auditor.Auditor.enter.Goals as goal

pub admit-requires-clause-few : goal.admit-requires-clause-few
admit-requires-clause-few g c = edits_few c.self.inside.board c.self.inside.record.audit c.self.invariant c.number-few.ensures.few

pub add-requires-clause-next : goal.add-requires-clause-next
add-requires-clause-next g c =
    subst (λ a. ComesNext a (entry_next a c.args.job.now c.args.reply)) (sym (c.reserve.ensures.same ∙ c.self.view_is))
    (step_next c.args.self.now c.self.inside.board c.args.job.now c.args.reply (c.self.invariant ∙ ap state_now c.self.view_is) c.requires.next
    (sym c.again_in.ensures ∙ c.in-None.is) c.in-Ok.ensures.step)

pub invariant_of-self-in-Ok : goal.invariant_of-self-in-Ok
invariant_of-self-in-Ok g c =
    state_next c.reserve.new.self.audit c.self.inside.board (state_on c.admit.new.self) c.args.job.now c.args.reply
    (c.self.invariant ∙ ap state_now (sym c.reserve.ensures.same)) c.in-Ok.ensures.next ∙ ap state_now (sym c.add.ensures)
