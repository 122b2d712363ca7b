use Rattle.std.proofs.Common.{◌≡◌, ◌≤◌, ◌↔◌, true, sym, subst, ◌∙◌, arith}
use Rattle.std.proofs.lemmas.Grind.{common_steps}
use Rattle.wf_talk.specs.declared.reply.Reply.TheVariants as reply
use Rattle.wf_board.specs.Decisions.{decision_of, needs_verdict}
use Rattle.wf_board.specs.Laws.States.{State}
use Rattle.transcript_audit.specs.Auditor.{AuditShape, ComesNext}
use Rattle.transcript_audit.specs.Keeping.{entry_next}
use Rattle.transcript_audit.proofs.Entering.{again_exactly}
use Rattle.transcript_audit.proofs.auditor.Auditor.may_retry.Goals as goal

pub returns : goal.returns
returns c =
    let a : AuditShape = c.self.inside.record.audit in
    let j = c.args.job.now in
    let n = c.args.rounds in
    let some : 1 ≤ n = let h = c.if-rounds-eq0.false in grind (arith, common_steps, h) in
    subst (λ (x : AuditShape). (c.rests.result ≡ true) ↔ ComesNext x (entry_next x j (reply.Again n c.args.at))) c.self.view_is
    (again_exactly a j n c.args.at c.rests.result (rw (← c.self.view_is) at c.requires.next)
    (λ yes. record {
      rounds = c.if-rounds.false ∙ c.rounds.ensures;
      positive = some;
      deed = sym c.is_view.ensures ∙ c.if-is_view.false;
      undecided = subst (λ (s : State). needs_verdict (decision_of s.book j.ask) ≡ true) c.self.invariant (sym c.needs.ensures ∙ c.if-not-needs.false);
      rests = sym c.rests.ensures ∙ yes;
    })
    (λ may. c.rests.ensures ∙ may.rests))
