-- Inside: what a desk keeps beside what is said of it.
use Rattle.std.specs.Prelude.{◌≡◌, ℕ, ◌+◌, ◌<◌, ◌≤◌, ◌&&◌, nat_le, not, Bool, true, false, List}
use Rattle.std.specs.Prelude.{length, take, drop, max, slice_get, slice_index_or, IfSome, Option}
use Rattle.std.specs.Prelude.{None, Some}
use Rattle.wf_names.specs.declared.limits.TheConstants.{LANE_LIMIT}
use Rattle.wf_talk.specs.declared.job.Job.{Job}
use Rattle.wf_talk.specs.declared.request.Ask.{Ask}
use Rattle.wf_board.specs.Counting.{counted, lane_end}
use Rattle.wf_board.specs.Laws.Histories.{lane_jobs}
use Rattle.wf_board.specs.Boards.{state_on}
use Rattle.wf_board.specs.Decisions.{decision_of, is_view, needs_verdict}
use Rattle.wf_board.specs.Deeds.{IsUndecided}
use Rattle.wf_board.specs.Verdicts.{IsDecided}
use Rattle.wf_board.specs.declared.deed.Deed.{Deed}
use Rattle.wf_board.specs.declared.verdict.Verdict.TheVariants as verdict
use Rattle.wf_desk.specs.declared.task.Task.{Task}
use Rattle.wf_desk.specs.declared.outcome.Outcome.{Outcome}
use Rattle.wf_desk.specs.declared.outcome.Outcome.TheVariants as outcome
use Rattle.wf_desk.specs.Desks.{AreOfLanes, DeskShape, HasAdded, IsSoundDesk, loss_of, next_job}
use Rattle.wf_desk.specs.Desks.{served}
use Rattle.wf_desk.specs.Laws.Commits.{IsReplyWhere, floor_of, is_fresh_or_change, is_last_round}
use Rattle.wf_desk.specs.Laws.Commits.{is_lost, job_of_task, with_loss}

-- behind a lane's last entry of the batch
abbrev pub own_start : DeskShape → ℕ → ℕ
own_start d lane = max (lane_end lane d.entries) d.start

-- the losses of a lane's next job, and the entries from its floor on that count for it, are no more
-- than the entries of the batch behind the lane's last one that count for it
abbrev pub LossRests : DeskShape → ℕ → Ask → Type 0
LossRests d lane what =
    (loss_of d.losses lane).count + counted what (drop (floor_of d lane) d.entries) ≤ counted
    what (drop (own_start d lane) d.entries)

-- a lane's next job stands at a place among the jobs
pub record IsLanePlace (d : DeskShape) (lane place : ℕ) : Type 0 where
  pub within : place ≤ length d.jobs
  pub before : served d lane ≡ lane_jobs lane (take place d.jobs)
  pub here : IfSome (slice_get d.jobs place) (λ j. j.lane ≡ lane)

-- a desk is sound, there is room for the entries of the batch, all numbers fit, a lost job rests on
-- entries of the batch, and each lane's next job is known
pub record IsDesk (d : DeskShape) (places : List ℕ) : Type 0 where
  pub sound : IsSoundDesk d
  pub few : d.lanes ≤ LANE_LIMIT
  pub of_lanes : AreOfLanes d.lanes d.jobs
  pub room : d.start + length d.jobs ≤ length d.entries + d.spare
  pub small : d.start + length d.jobs < 4294967296
  pub ends : (lane : ℕ) → (loss_of d.losses lane).end ≤ length d.entries
  pub losses : (lane : ℕ) (j : Job) → next_job d lane ≡ Some j → LossRests d lane j.ask
  pub placed : (lane : ℕ) → lane < LANE_LIMIT → IsLanePlace d lane (slice_index_or places lane 0)

-- a lane has a job left
abbrev pub HasNext : DeskShape → ℕ → Type 0
HasNext d lane = (job : Job) × (next_job d lane ≡ Some job)

-- a lane has a job left of which a deed is left to decide
abbrev pub LeavesDeed : DeskShape → ℕ → Deed → Type 0
LeavesDeed d lane deed = (job : Job) × ((next_job d lane ≡ Some job)
    × IsUndecided d.board.policy d.board.cases job.ask deed)

-- and the jobs of its batch are the last of these, from a place on
pub record IsDeskAt (d : DeskShape) (places : List ℕ) (jobs : List Job) (first : ℕ) : Type 0 where
  pub desk : IsDesk d places
  pub begins : first ≤ length jobs

-- what became of a task that was stale
abbrev pub HasMissed : DeskShape → DeskShape → Task → Outcome → Type 0
HasMissed before after t outcome.NotNext = ⊥
HasMissed before after t outcome.Lost = (is_lost before t ≡ true) ×
    ((is_last_round before t.lane ≡ false) × (after ≡ with_loss before t.lane))
HasMissed before after t (outcome.Recorded place) =
    HasAdded before after (job_of_task t) place
    (IsReplyWhere false (is_lost before t) before t verdict.Nothing)

-- a stale task is lost, if it needs a verdict
abbrev pub may_lose : DeskShape → Task → Bool
may_lose d t = nat_le 1 d.rounds && (not (is_view t.ask) && nat_le (floor_of d t.lane) t.number)

-- a lane's next job was looked at: it needed no verdict and was answered, or it needs one, and
-- nothing has changed
abbrev pub HasLookedAt : DeskShape → DeskShape → Job → Option Deed → Type 0
HasLookedAt before after job None =
    HasAdded before after job (length before.entries)
    (IsDecided before.board job.ask verdict.Nothing)
    × (needs_verdict (decision_of (state_on before.board).book job.ask) ≡ false)
HasLookedAt before after job (Some d) =
    (after ≡ before) × ((needs_verdict (decision_of (state_on before.board).book job.ask) ≡ true)
    × IsUndecided before.board.policy before.board.cases job.ask d)

-- what became of a task without a verdict
abbrev pub HasCommittedNone : DeskShape → DeskShape → Task → Outcome → Type 0
HasCommittedNone before after t outcome.NotNext = ⊥
HasCommittedNone before after t outcome.Lost =
    (is_fresh_or_change before t ≡ false) × ((is_lost before t ≡ true) ×
    ((is_last_round before t.lane ≡ false) × (after ≡ with_loss before t.lane)))
HasCommittedNone before after t (outcome.Recorded place) =
    HasAdded before after (job_of_task t) place
    (IsReplyWhere (is_fresh_or_change before t) (is_lost before t) before t verdict.Nothing)
