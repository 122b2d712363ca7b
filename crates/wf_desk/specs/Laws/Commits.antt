-- What becomes of a job: decided inside the turn, or with the verdict of a task that was found
-- outside it.
use Rattle.std.specs.Prelude.{◌≡◌, ℕ, ◌+◌, ◌==◌, ◌&&◌, ◌||◌, nat_le, not, Bool, true, false, List}
use Rattle.std.specs.Prelude.{length, drop, max, slice_set, Option, None, Some, Result, Ok, Err}
use Rattle.std.specs.declared.alloc.AllocError.{AllocError}
use Rattle.std.proofs.Common.{◌⊎◌}
use Rattle.wf_talk.specs.declared.job.Job.{Job}
use Rattle.wf_talk.specs.declared.request.Ask.{Ask}
use Rattle.wf_talk.specs.declared.request.Ask.TheVariants as ask
use Rattle.wf_talk.specs.declared.request.Request.TheVariants as request
use Rattle.wf_talk.specs.declared.reply.Reply.{Reply}
use Rattle.wf_talk.specs.declared.reply.Reply.TheVariants.{Again}
use Rattle.wf_board.specs.declared.verdict.Verdict.{Verdict}
use Rattle.wf_board.specs.declared.verdict.Verdict.TheVariants as verdict
use Rattle.wf_board.specs.Boards.{state_on}
use Rattle.wf_board.specs.Counting.{counted, counted_end, lane_end}
use Rattle.wf_board.specs.Decisions.{decision_of, is_view, needs_verdict}
use Rattle.wf_board.specs.Deeds.{needs_search}
use Rattle.wf_board.specs.Laws.States.{Book}
use Rattle.wf_board.specs.Verdicts.{IsCertified, IsDecided, IsRight, snap_of}
use Rattle.wf_desk.specs.declared.task.Task.{Task}
use Rattle.wf_desk.specs.declared.task.Taken.{Taken}
use Rattle.wf_desk.specs.declared.task.Taken.TheVariants as taken
use Rattle.wf_desk.specs.declared.outcome.Outcome.{Outcome}
use Rattle.wf_desk.specs.declared.outcome.Outcome.TheVariants as outcome
use Rattle.wf_desk.specs.Desks.{DeskShape, HasAdded, loss_of, next_job, state_after_first}

-- the job of a task
abbrev pub job_of_task : Task → Job
job_of_task t = record { lane = t.lane; line = t.line; ask = t.ask }

-- a task is that of a lane's next job, on the state as it is now
pub record IsTask (d : DeskShape) (of : ℕ) (t : Task) : Type 0 where
  pub lane : t.lane ≡ of
  pub next : next_job d of ≡ Some (job_of_task t)
  pub number : t.number ≡ length d.entries
  pub snap : t.snap ≡ snap_of d.board t.ask t.snap.cases.spare

-- a verdict is right for the state on which its task was found
abbrev pub IsRightFor : DeskShape → Task → Verdict → Type 0
IsRightFor d t v = IsRight (state_after_first d t.number).book t.ask v

-- a task is for its lane's next job
abbrev pub IsNext : DeskShape → Task → Type 0
IsNext d t = next_job d t.lane ≡ Some (job_of_task t)

-- no entry since counts for what a task asks
abbrev pub is_fresh : DeskShape → Task → Bool
is_fresh d t = counted t.ask (drop t.number d.entries) == 0

-- from where on entries may make a lane's next job lost: behind the lane's last entry, behind those
-- of earlier batches, and behind those for which the job was lost before
abbrev pub floor_of : DeskShape → ℕ → ℕ
floor_of d lane = max (max (lane_end lane d.entries) d.start) (loss_of d.losses lane).end

-- a stale task is lost: jobs may be, it is no view, only whether cases can be completed is left to
-- decide, and all that it missed may make it lost
abbrev pub is_lost : DeskShape → Task → Bool
is_lost d t =
    nat_le 1 d.rounds && (not (is_view t.ask)
    && (needs_verdict (decision_of (state_on d.board).book t.ask) &&
    nat_le (floor_of d t.lane) t.number))

-- one more loss of a lane's next job is the last that it may have
abbrev pub is_last_round : DeskShape → ℕ → Bool
is_last_round d lane = nat_le d.rounds ((loss_of d.losses lane).count + 1)

-- with one more loss of a lane's next job
abbrev pub with_loss : DeskShape → ℕ → DeskShape
with_loss d lane = record d {
  losses = slice_set d.losses lane
      (record { count = (loss_of d.losses lane).count + 1; end = length d.entries });
}

-- the reply is `again`, with all rounds and the place of the last entry that counts
abbrev pub IsAgain : DeskShape → Task → Reply → Type 0
IsAgain d t given = (place : ℕ) ×
    ((given ≡ Again d.rounds place) × (place + 1 ≡ counted_end t.ask d.entries))

-- the reply where the task is fresh, and where it is lost: with its verdict; again; decided anew
-- inside the turn
abbrev pub IsReplyWhere : (fresh lost : Bool) → DeskShape → Task → Verdict → Reply → Type 0
IsReplyWhere true lost d t v given = IsDecided d.board t.ask v given
IsReplyWhere false true d t v given = (is_last_round d t.lane ≡ true) × IsAgain d t given
IsReplyWhere false false d t v given = IsDecided d.board t.ask verdict.Nothing given

-- a task was committed with a verdict
abbrev pub HasCommitted : DeskShape → DeskShape → Task → Verdict → Outcome → Type 0
HasCommitted before after t v outcome.NotNext = ¬ IsNext before t × (after ≡ before)
HasCommitted before after t v outcome.Lost =
    IsNext before t × ((is_fresh before t ≡ false) × ((is_lost before t ≡ true)
    × ((is_last_round before t.lane ≡ false) × (after ≡ with_loss before t.lane))))
HasCommitted before after t v (outcome.Recorded place) =
    IsNext before t × HasAdded before after (job_of_task t) place
    (IsReplyWhere (is_fresh before t) (is_lost before t) before t v)

-- an edit of the policy
abbrev pub is_change : Ask → Bool
is_change (ask.Request (request.Change by edit)) = true
is_change what = false

-- no entry since counts for a task, or it is an edit
abbrev pub is_fresh_or_change : DeskShape → Task → Bool
is_fresh_or_change d t = is_fresh d t || is_change t.ask

-- a task was committed with a verdict that was checked once more, whatever was known of it: as
-- above, but that a plan or a tree that is right now decides, and that an edit or a view is always
-- decided anew inside the turn
abbrev pub HasCommittedChecked : DeskShape → DeskShape → Task → Verdict → Outcome → Type 0
HasCommittedChecked before after t v outcome.NotNext = ¬ IsNext before t × (after ≡ before)
HasCommittedChecked before after t v outcome.Lost =
    IsNext before t × (¬ IsCertified (state_on before.board).book t.ask v ×
    ((is_fresh_or_change before t ≡ false)
    × ((is_lost before t ≡ true) ×
    ((is_last_round before t.lane ≡ false) × (after ≡ with_loss before t.lane)))))
HasCommittedChecked before after t v (outcome.Recorded place) =
    IsNext before t × HasAdded before after (job_of_task t) place (λ given.
    (IsCertified (state_on before.board).book t.ask v × IsDecided before.board t.ask v given)
    ⊎ (¬ IsCertified (state_on before.board).book t.ask v
    × IsReplyWhere (is_fresh_or_change before t) (is_lost before t) before t verdict.Nothing given))

-- a lane's next job was decided inside the turn, if it has one
abbrev pub HasServed : DeskShape → DeskShape → ℕ → Bool → Type 0
HasServed before after lane true =
    (job : Job) × ((next_job before lane ≡ Some job)
    × HasAdded before after job (length before.entries)
    (IsDecided before.board job.ask verdict.Nothing))
HasServed before after lane false = (next_job before lane ≡ None) × (after ≡ before)

-- a lane has a job left, and a verdict on it has to be searched for
abbrev pub asks_search : Book → Option Job → Bool
asks_search b None = false
asks_search b (Some job) = needs_search (decision_of b job.ask)

abbrev pub next_asks_search : DeskShape → ℕ → Bool
next_asks_search d lane = asks_search (state_on d.board).book (next_job d lane)

-- a lane's next job was decided inside the turn by a plan
abbrev pub HasPlanned : DeskShape → DeskShape → ℕ → Type 0
HasPlanned before after lane =
    (job : Job) × ((next_job before lane ≡ Some job)
    × ((plan : List ℕ) × HasAdded before after job (length before.entries)
    (IsDecided before.board job.ask (verdict.Plan plan))))

-- a lane's next job was taken up, if it has one: what needs no search was decided inside the turn;
-- of what has to be searched this is the task, or there was no memory for one, and nothing has
-- changed; where plans at hand may decide, it was decided inside the turn by a plan, and by nothing
-- else
abbrev pub HasTakenUp : (near : Bool) → DeskShape → DeskShape → ℕ → Result Taken AllocError → Type 0
HasTakenUp near before after lane (Ok (taken.Task t)) =
    (next_asks_search before lane ≡ true) × (IsTask before lane t × (after ≡ before))
HasTakenUp near before after lane (Ok taken.Served) = (next_asks_search before lane ≡ false) ×
    HasServed before after lane true
HasTakenUp near before after lane (Ok taken.Planned) =
    (near ≡ true) × ((next_asks_search before lane ≡ true) × HasPlanned before after lane)
HasTakenUp near before after lane (Ok taken.Ended) = HasServed before after lane false
HasTakenUp near before after lane (Err e) = (next_asks_search before lane ≡ true) × (after ≡ before)
