-- What a board may have no memory for.
use Rattle.wf_board.proofs.Common.{◌≡◌, true, false, arith, Ask, Reply}
use Rattle.wf_board.proofs.Common.{Verdict, BoardShape}
use Rattle.wf_board.proofs.Common.{shows_large}
use Rattle.wf_talk.specs.declared.reply.Reply.TheVariants as reply
use Rattle.wf_board.specs.Laws.Histories.{may_lack_memory}
use Rattle.wf_board.specs.Verdicts.{IsDecided, LacksMemory}

-- want of memory is answered only to an opening, a claim, an edit or a view over the open cases
pub lacks_rightly : (b : BoardShape) (what : Ask) (v : Verdict) → LacksMemory b what v → may_lack_memory what ≡ true
lacks_rightly b what v h3 = grind arith

-- and no tree that is too large is shown
pub decided_rightly : (b : BoardShape) (what : Ask) (v : Verdict) (given : Reply) → IsDecided b what v given →
    (given ≡ reply.NoMemory → may_lack_memory what ≡ true) × (shows_large given ≡ false)
decided_rightly b what v given decided = (λ short. lacks_rightly b what v (decided.memory short), decided.small)
