use Rattle.std.proofs.Common.{◌≡◌, ◌≤◌, ◌+◌, true, subst}
use Rattle.std.specs.Arc.{arc_value}
use Rattle.wf_talk.specs.declared.reply.Reply.TheVariants as replies
use Rattle.wf_board.specs.declared.verdict.Answered.TheVariants.{Done}
use Rattle.wf_board.specs.Boards.{state_on}
use Rattle.wf_board.specs.Decisions.{decision_of, needs_verdict}
use Rattle.wf_board.specs.Deeds.{LeavesBy}
use Rattle.wf_board.specs.Taking.{board_of, HasAnsweredBy}
use Rattle.wf_board.specs.Verdicts.{HasAnswered, MayLackMemory, UsesVerdict}
use Rattle.wf_board.proofs.Answering.{one_at_most}
use Rattle.wf_board.proofs.PlansKept.{leaves_by}
use Rattle.wf_board.proofs.Small.{answered_small}
use Rattle.wf_board.proofs.board.Board.answer.Goals as goal

pub returns-in-Edited-clause-memory : goal.returns-in-Edited-clause-memory
returns-in-Edited-clause-memory c = λ short. absurd (cc)

pub returns-in_default : goal.returns-in_default
returns-in_default c =
    let edits = c.self.inside.edits in
    let what = c.args.ask.now in
    let given = c.answer.result in
    let by = subst (λ q. HasAnsweredBy q c.self.inside.cases c.answer.new.cases what c.args.verdict given) c.deref-policy.ensures c.answer.ensures.answered in
    record {
      answered = subst (λ b. HasAnswered b (board_of (arc_value c.self.inside.policy) c.answer.new.cases edits) what c.args.verdict given) c.self.view_is
          (by.answered edits);
      used = subst (λ b. needs_verdict (decision_of (state_on b).book what) ≡ true → UsesVerdict c.args.verdict given) c.self.view_is
          (λ needed. record { needs = by.needs needed; made = by.made needed });
      memory = subst (λ b. given ≡ Done replies.NoMemory → MayLackMemory b what c.args.verdict) c.self.view_is (by.memory edits);
      small = answered_small (board_of (arc_value c.self.inside.policy) c.self.inside.cases edits)
          (board_of (arc_value c.self.inside.policy) c.answer.new.cases edits) what c.args.verdict given (by.answered edits) by.made;
      left = subst (λ b. LeavesBy b (board_of (arc_value c.self.inside.policy) c.answer.new.cases edits) what c.args.verdict given) c.self.view_is
          (leaves_by _ _ _ edits what c.args.verdict given c.in_default.not-Edited by.rows by.lacking by.room);
      room = subst (λ b. b.cases.spare ≤ c.answer.new.cases.spare + 1) c.self.view_is
          (one_at_most c.self.inside.cases.spare c.answer.new.cases.spare given by.room);
    }
