-- What became of a lane's next job.
use Rattle.std.proofs.Common.{◌≡◌, ℕ, List, [], ◌∷◌, ◌++◌, length, Some, false, arith}
use Rattle.wf_talk.specs.declared.entry.Entry.{Entry}
use Rattle.wf_talk.specs.declared.job.Job.{Job}
use Rattle.wf_talk.specs.declared.reply.Reply.{Reply}
use Rattle.wf_talk.specs.declared.reply.Reply.TheVariants as reply
use Rattle.wf_board.specs.declared.verdict.Verdict.{Verdict}
use Rattle.wf_board.specs.Boards.{BoardShape, state_on}
use Rattle.wf_board.specs.declared.deed.Deed.{Deed}
use Rattle.wf_board.specs.Decisions.{decision_of, needs_verdict}
use Rattle.wf_board.specs.Deeds.{IsUndecided}
use Rattle.wf_board.specs.Verdicts.{IsCertified, IsDecided}
use Rattle.wf_desk.specs.declared.loss.Loss.{Loss}
use Rattle.wf_desk.specs.declared.task.Task.{Task}
use Rattle.wf_desk.specs.declared.outcome.Outcome.{Outcome}
use Rattle.wf_desk.specs.declared.outcome.Outcome.TheVariants as outcome
use Rattle.wf_desk.specs.Desks.{DeskShape, HasAdded, no_loss}
use Rattle.wf_desk.specs.Laws.Commits.{HasCommitted, HasCommittedChecked, IsNext, is_fresh, job_of_task}
use Rattle.wf_desk.specs.Docket.{entry_for}
use Rattle.wf_desk.specs.Keeping.{HasLookedAt, HasMissed}
use Rattle.wf_desk.proofs.DeskLaws.{with_parts}

-- a job was decided, and its entry added
pub added_parts : (inner d : DeskShape) (j k : Job) (v : Verdict) (given : Reply) (entries : List Entry) (b : BoardShape) (spare : ℕ) (loss : Loss)
    (at : ℕ) → inner ≡ d → j ≡ k → IsDecided inner.board j.ask v given → (given ≡ reply.NoMemory → b ≡ inner.board) → at ≡ length inner.entries →
    entries ≡ inner.entries ++ entry_for j (length inner.entries) given ∷ [] → loss ≡ no_loss →
    HasAdded d (with_parts inner j.lane entries b spare loss) k at (IsDecided d.board k.ask v)
added_parts inner d j k v given entries b spare loss at is same decided lacking place added none = grind arith

-- a job was looked at, and its deed is left to decide
pub looked_left : (inner d : DeskShape) (b : BoardShape) (j k : Job) (left : Deed) → inner ≡ d → j ≡ k →
    IsUndecided inner.board.policy inner.board.cases j.ask left → b ≡ inner.board → HasLookedAt d (record inner { board = b }) k (Some left)
looked_left inner d b j k left is same undecided stays = grind arith

pub needs_none : (inner d : DeskShape) (j k : Job) → inner ≡ d → j ≡ k → needs_verdict (decision_of (state_on inner.board).book j.ask) ≡ false →
    needs_verdict (decision_of (state_on d.board).book k.ask) ≡ false
needs_none inner d j k is same none = grind arith

-- a stale task was committed
pub missed_committed : (d e : DeskShape) (t : Task) (v : Verdict) (out : Outcome) → IsNext d t → is_fresh d t ≡ false → HasMissed d e t out →
    HasCommitted d e t v out
missed_committed d e t v out next stale has = grind arith

-- a task was committed with a verdict that is right now
pub checked_some : (d e : DeskShape) (t : Task) (v : Verdict) (place : ℕ) → IsNext d t → IsCertified (state_on d.board).book t.ask v →
    HasAdded d e (job_of_task t) place (IsDecided d.board t.ask v) → HasCommittedChecked d e t v (outcome.Recorded place)
checked_some d e t v place next certified has = grind arith
