use Rattle.std.proofs.Common.{◌≡◌, true, false, sym, subst, ap, ◌∙◌}
use Rattle.std.specs.Arc.{arc_value}
use Rattle.wf_board.specs.Admission.{HasAdmitted}
use Rattle.wf_board.specs.Admit.{HasAdmittedStep}
use Rattle.wf_board.specs.Boards.{book_of}
use Rattle.wf_board.specs.Decisions.{decision_of}
use Rattle.wf_board.specs.Taking.{board_of, keeps_policy}
use Rattle.wf_board.proofs.Admitted.{step_admitted}
use Rattle.wf_board.proofs.board.Board.admit_kept.Goals as goal

pub returns : goal.returns
returns c =
    let t = c.self.inside.cases in
    let what = c.args.ask.now in
    let by = subst (λ q. HasAdmitted q t c.admit.new.cases (decision_of (book_of q t) what) c.args.reply.now c.admit.result) c.deref-policy.ensures
    c.admit.ensures in
    subst (λ b. HasAdmittedStep b (board_of (arc_value c.self.inside.policy) c.admit.new.cases c.self.inside.edits) what c.args.verdict.now c.args.reply.now
    c.admit.result) c.self.view_is
    (step_admitted _ t c.admit.new.cases c.self.inside.edits what c.args.verdict.now c.args.reply.now c.admit.result
    (λ edition is. let apart : true ≡ false = sym c.requires.same ∙ ap keeps_policy is in cc) by)
