-- What a board has taken of a reply that somebody else gave.
use Rattle.wf_board.proofs.Common.{◌≡◌, ◌≢◌, ℕ, Result, arith, PolicyShape, CasesShape, Ask, Reply, Fault, NotStep, Verdict, HasAdmitted, BoardShape}
use Rattle.wf_board.proofs.Common.{EditionShape, book_of, decision_of, board_of}
use Rattle.wf_talk.specs.declared.reply.Reply.TheVariants as reply
use Rattle.basics.specs.declared.fault.Fault.TheVariants.{NoMemory}
use Rattle.wf_board.specs.declared.verdict.Verdict.TheVariants as verdict
use Rattle.wf_board.specs.Admit.{HasAdmittedStep, HasTakenReply}

pub step_admitted : (p : PolicyShape) (before after : CasesShape) (edits : ℕ) (what : Ask) (v : Verdict) (given : Reply)
    (result : Result (Unit {0}) (Fault NotStep)) →
    ((edition : EditionShape) → v ≢ verdict.Edited edition) → HasAdmitted p before after (decision_of (book_of p before) what) given result →
    HasAdmittedStep (board_of p before edits) (board_of p after edits) what v given result
step_admitted p before after edits what v given result other is = grind arith

-- want of memory changes nothing, whatever the verdict
pub want_admitted : (b : BoardShape) (what : Ask) (v : Verdict) (given : Reply) → given ≡ reply.NoMemory → HasTakenReply b b what v given
want_admitted b what v given is = grind arith
