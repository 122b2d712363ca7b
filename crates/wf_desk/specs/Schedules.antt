-- Schedules: turns in a given order, and what each of them did.
use Rattle.std.specs.Prelude.{◌≡◌, ◌≢◌, ℕ, ◌<◌, true, false, List, [], ◌∷◌, ◌++◌, length, take}
use Rattle.std.specs.Prelude.{drop, map, replicate, slice_index_or, slice_set, Option, None, Some}
use Rattle.wf_names.specs.declared.limits.TheConstants.{LANE_LIMIT}
use Rattle.wf_talk.specs.declared.entry.Entry.{Entry}
use Rattle.wf_talk.specs.declared.job.Job.{Job}
use Rattle.wf_board.specs.Boards.{book_on}
use Rattle.wf_board.specs.Laws.Histories.{job_of_entry, lane_jobs}
use Rattle.wf_board.specs.Verdicts.{Decides}
use Rattle.wf_desk.specs.declared.outcome.Outcome.{Outcome}
use Rattle.wf_desk.specs.declared.outcome.Outcome.TheVariants as outcome
use Rattle.wf_desk.specs.declared.schedule.Event.{Event}
use Rattle.wf_desk.specs.declared.schedule.Event.TheVariants.{Begin, Commit, Serve}
use Rattle.wf_desk.specs.declared.schedule.Mark.{Mark}
use Rattle.wf_desk.specs.declared.schedule.Mark.TheVariants.{Began, NoJob, NoMemory, Recorded, Lost}
use Rattle.wf_desk.specs.declared.schedule.Mark.TheVariants.{NotNext, NoTask, Served}
use Rattle.wf_desk.specs.declared.schedule.Solved.{Solved}
use Rattle.wf_desk.specs.Desks.{DeskShape, next_job, served}
use Rattle.wf_desk.specs.Laws.Commits.{HasCommitted, HasServed, IsTask}

-- the lane of an event
abbrev pub lane_of : Event → ℕ
lane_of (Begin lane) = lane
lane_of (Commit lane) = lane
lane_of (Serve lane) = lane

-- each of these events is of a lane below `lanes`
abbrev pub AreEventsOf : ℕ → List Event → Type 0
AreEventsOf lanes [] = Unit {0}
AreEventsOf lanes (e ∷ es) = (lane_of e < lanes) × AreEventsOf lanes es

-- a desk, and for each lane the task that it holds with the verdict that was found on it
pub record Standing : Type 0 where
  pub desk : DeskShape
  pub held : List (Option Solved)

-- what a lane holds
abbrev pub held_by : List (Option Solved) → ℕ → Option Solved
held_by held lane = slice_index_or held lane None

-- no lane holds a task
abbrev pub no_tasks : List (Option Solved)
no_tasks = replicate LANE_LIMIT None

-- with a task that a lane holds, or none, in place of the one that it held
abbrev pub with_held : Standing → ℕ → Option Solved → Standing
with_held s lane task = record s { held = slice_set s.held lane task }

-- what a commit came to, as a mark
abbrev pub mark_of : Outcome → Mark
mark_of outcome.NotNext = NotNext
mark_of outcome.Lost = Lost
mark_of (outcome.Recorded n) = Recorded n

-- a lane's task was committed, with its verdict, and is held no more
abbrev pub HasCommittedHeld : Standing → ℕ → Outcome → Standing → Type 0
HasCommittedHeld s lane result t =
    (x : Solved) × ((held_by s.held lane ≡ Some x) × (HasCommitted s.desk t.desk x.task
    x.verdict result × (t.held ≡ slice_set s.held lane None)))

-- what an event did that is marked so
abbrev pub HasDone : Standing → Event → Mark → Standing → Type 0
HasDone s (Begin lane) (Began n) t =
    (x : Solved) × (IsTask s.desk lane x.task × ((x.task.number ≡ n)
    × (Decides (book_on x.task.snap) x.task.ask x.verdict × (t ≡ with_held s lane (Some x)))))
HasDone s (Begin lane) NoJob t = (next_job s.desk lane ≡ None) × (t ≡ with_held s lane None)
HasDone s (Begin lane) NoMemory t = (next_job s.desk lane ≢ None) × (t ≡ s)
HasDone s (Commit lane) NoTask t = (held_by s.held lane ≡ None) × (t ≡ s)
HasDone s (Commit lane) NotNext t = HasCommittedHeld s lane outcome.NotNext t
HasDone s (Commit lane) Lost t = HasCommittedHeld s lane outcome.Lost t
HasDone s (Commit lane) (Recorded n) t = HasCommittedHeld s lane (outcome.Recorded n) t
HasDone s (Serve lane) NoJob t = HasServed s.desk t.desk lane false × (t.held ≡ s.held)
HasDone s (Serve lane) (Served n) t = HasServed s.desk t.desk lane true ×
    ((n ≡ length s.desk.entries) × (t.held ≡ s.held))
HasDone s e mark t = ⊥

-- what the events did, one after the other, that are marked so
abbrev pub HasDoneAll : Standing → List Event → List Mark → Standing → Type 0
HasDoneAll s [] [] t = t ≡ s
HasDoneAll s (e ∷ es) (m ∷ ms) t = (next : Standing) ×
    (HasDone s e m next × HasDoneAll next es ms t)
HasDoneAll s es ms t = ⊥

-- the events were gone through, at first without tasks
abbrev pub HasRunSchedule : DeskShape → List Event → List Mark → DeskShape → Type 0
HasRunSchedule before events marks after =
    (held : List (Option Solved)) × HasDoneAll (record { desk = before; held = no_tasks })
    events marks (record { desk = after; held = held })

-- there are more entries; but for them nothing was changed but the board, the rooms and the losses
pub record HasGrown (before after : DeskShape) : Type 0 where
  pub more : List Entry
  pub extends : after.entries ≡ before.entries ++ more
  pub opening : after.opening ≡ before.opening
  pub lanes : after.lanes ≡ before.lanes
  pub rounds : after.rounds ≡ before.rounds
  pub earlier : after.earlier ≡ before.earlier
  pub jobs : after.jobs ≡ before.jobs
  pub start : after.start ≡ before.start
  pub restored : after.restored ≡ before.restored

-- a lane's jobs among these entries
abbrev pub lane_answers : List Entry → ℕ → List Job
lane_answers entries lane = lane_jobs lane (map job_of_entry entries)

-- a lane's jobs that are left
abbrev pub lane_left : DeskShape → ℕ → List Job
lane_left d lane = drop (length (served d lane)) (lane_jobs lane d.jobs)

-- there are more entries, and each lane's are its next jobs, in order
pub record HasGoneOn (before after : DeskShape) : Type 0 where
  pub grown : HasGrown before after
  pub next : (lane : ℕ) → lane_answers grown.more lane ≡ take
      (length (lane_answers grown.more lane)) (lane_left before lane)
