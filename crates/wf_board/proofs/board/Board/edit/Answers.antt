use Rattle.std.proofs.Common.{◌+◌, sym, ap, subst, ◌∙◌}
use Rattle.std.specs.Arc.{arc_value}
use Rattle.policy_book.specs.Laws.Facts.{IsSoundPolicy}
use Rattle.wf_board.specs.declared.verdict.Verdict.TheVariants as verdicts
use Rattle.wf_board.specs.declared.verdict.Answered.TheVariants.{Done}
use Rattle.wf_talk.specs.declared.reply.Reply.TheVariants as replies
use Rattle.wf_board.specs.Boards.{state_on}
use Rattle.wf_board.specs.Decisions.{decision_aside}
use Rattle.wf_board.specs.Taking.{board_of}
use Rattle.wf_board.specs.Verdicts.{HasAnswered, IsEditionFor}
use Rattle.wf_board.proofs.Amended.{with_plans}
use Rattle.wf_board.proofs.Answering.{edition_taken}
use Rattle.wf_board.proofs.PlansKept.{edition_kept}
use Rattle.wf_board.proofs.board.Board.edit.Goals as goal

pub invariant_of-self : goal.invariant_of-self
invariant_of-self c =
    let p = arc_value c.self.inside.policy in
    let t = c.self.inside.cases in
    let taken = edition_taken p (arc_value c.into_parts-policy.result.0) t c.replace_plans.new.self c.self.inside.edits c.live-planned.result c.args.ask.now
    c.args.edition
    record { planned = c.self.invariant.0; numbered = c.self.invariant.1 }
    (subst IsSoundPolicy c.deref-before.ensures c.admin-sound.ensures.sound)
    c.live-planned.ensures.kept
    (subst (λ b. IsEditionFor (state_on b).book (decision_aside (state_on b).book c.args.ask.now) c.args.edition) (sym c.self.view_is) c.requires.right)
    c.into_parts-policy.ensures.policy
    (c.replace_plans.ensures ∙ ap (with_plans t) (c.as_slice.ensures ∙ c.into_parts-policy.ensures.plans)) in
    (taken.0.planned, taken.0.numbered)

pub returns-clause-answered : goal.returns-clause-answered
returns-clause-answered c =
    let p = arc_value c.self.inside.policy in
    let t = c.self.inside.cases in
    let q = arc_value c.into_parts-policy.result.0 in
    let taken = edition_taken p q t c.replace_plans.new.self c.self.inside.edits c.live-planned.result c.args.ask.now c.args.edition
    record { planned = c.self.invariant.0; numbered = c.self.invariant.1 }
    (subst IsSoundPolicy c.deref-before.ensures c.admin-sound.ensures.sound)
    c.live-planned.ensures.kept
    (subst (λ b. IsEditionFor (state_on b).book (decision_aside (state_on b).book c.args.ask.now) c.args.edition) (sym c.self.view_is) c.requires.right)
    c.into_parts-policy.ensures.policy
    (c.replace_plans.ensures ∙ ap (with_plans t) (c.as_slice.ensures ∙ c.into_parts-policy.ensures.plans)) in
    subst (λ b. HasAnswered b (board_of q c.replace_plans.new.self (c.self.inside.edits + 1)) c.args.ask.now (verdicts.Edited c.args.edition)
    (Done (replies.Edited (c.self.inside.edits + 1))))
    c.self.view_is taken.1

pub returns-clause-plans : goal.returns-clause-plans
returns-clause-plans c =
    let t = c.self.inside.cases in
    edition_kept (arc_value c.self.inside.policy) t c.replace_plans.new.self c.args.ask.now c.args.edition
    (subst (λ b. IsEditionFor (state_on b).book (decision_aside (state_on b).book c.args.ask.now) c.args.edition) (sym c.self.view_is) c.requires.right)
    (c.replace_plans.ensures ∙ ap (with_plans t) (c.as_slice.ensures ∙ c.into_parts-policy.ensures.plans))
