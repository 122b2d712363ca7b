use Rattle.std.proofs.Common.{refl}
use Rattle.wf_board.specs.Boards.{state_on}
use Rattle.wf_board.specs.Taking.{board_of}
use Rattle.wf_board.proofs.Admission.{change_only, strands_excludes}
use Rattle.wf_board.proofs.strands.admit_denied_change.Goals as goal

pub returns-in_default : goal.returns-in_default
returns-in_default c =
    let p = c.args.p.now in
    let t = c.args.cases.now in (
      refl,
      λ edits. change_only (state_on (board_of p t edits)) c.args.a c.args.reply.now c.requires.given
          (λ number is. strands_excludes p t edits c.args.a c.args.n c.args.shown.now number c.admin-sound.ensures.sound c.requires.ready.found
          c.requires.stranded) c.in_default.not-Denied,
    )

pub admit_strands-requires-clause-stranded : goal.admit_strands-requires-clause-stranded
admit_strands-requires-clause-stranded c = (c.args.shown.now, c.requires.stranded)
