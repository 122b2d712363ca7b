use Rattle.std.proofs.Common.{refl}
use Rattle.wf_board.specs.Boards.{state_on}
use Rattle.wf_board.proofs.Admission.{edition_only}
use Rattle.wf_board.specs.declared.verdict.Verdict.TheVariants as verdicts
use Rattle.wf_board.proofs.Admitted.{want_admitted}
use Rattle.wf_board.proofs.board.Board.admit_edit.Goals as goal

pub returns-in_default : goal.returns-in_default
returns-in_default c = (
  refl,
  edition_only (state_on c.args.self.now) c.args.ask.now c.args.edition c.args.reply.now c.policy-sound.ensures.sound c.requires.right
      c.in_default.not-NoMemory c.in_default.not-Edited,
)

pub returns-in-NoMemory : goal.returns-in-NoMemory
returns-in-NoMemory c = want_admitted c.args.self.now c.args.ask.now (verdicts.Edited c.args.edition) c.args.reply.now c.in-NoMemory.is
