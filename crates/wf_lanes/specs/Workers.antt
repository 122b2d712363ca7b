-- Inside: what the turns of a lane's thread do.
use Rattle.std.specs.Prelude.{◌≡◌, ℕ, ◌+◌, ◌<◌, ◌≤◌, Bool, true, false, Some, None}
use Rattle.std.specs.List.{Contains}
use Rattle.turn_table.specs.Table.{StartsWith}
use Rattle.turn_table.specs.Lanes.{LaneShape, TableId}
use Rattle.wf_talk.specs.declared.entry.Entry.{Entry}
use Rattle.wf_board.specs.declared.verdict.Verdict.{Verdict}
use Rattle.wf_desk.specs.declared.outcome.Outcome.{Outcome}
use Rattle.wf_desk.specs.declared.tabled.Fixed.{Fixed}
use Rattle.wf_desk.specs.declared.task.Task.{Task}
use Rattle.wf_desk.specs.Desks.{DeskShape, IsSoundDesk, next_job}
use Rattle.wf_desk.specs.Laws.Commits.{HasCommitted, HasPlanned, HasServed, IsTask}
use Rattle.wf_desk.specs.Laws.Commits.{next_asks_search}
use Rattle.wf_desk.specs.Tabled.{fixed_of, tagged_of}
use Rattle.wf_lanes.specs.declared.worker.Begun.{Begun}
use Rattle.wf_lanes.specs.declared.worker.Begun.TheVariants as begun

-- a lane stays the lane that it was
pub record IsSameLane (before after : LaneShape Fixed Entry) : Type 0 where
  pub table : after.table ≡ before.table
  pub number : after.number ≡ before.number
  pub fixed : after.fixed ≡ before.fixed

-- a desk is one that a lane has seen whole: it knows no entry past those of the desk
pub record HasSeenDesk (s : LaneShape Fixed Entry) (d : DeskShape) : Type 0 where
  pub fixed : Some (fixed_of d) ≡ s.fixed
  pub list : tagged_of d ≡ s.seen

-- a lane took a desk, whose history begins with what it knew, and gave another back
pub record HasTurned (before after : LaneShape Fixed Entry) (d e : DeskShape) : Type 0 where
  pub same : IsSameLane before after
  pub fixed : Some (fixed_of d) ≡ before.fixed
  pub later : StartsWith (tagged_of d) before.seen
  pub seen : HasSeenDesk after e

-- a task was begun, which waits for its verdict
abbrev pub is_task : Begun → Bool
is_task (begun.Task t) = true
is_task begun.Served = false
is_task begun.Planned = false
is_task begun.Lacking = false
is_task begun.Ended = false

-- what came of beginning a lane's next job at a desk: a job that needs no search was decided inside
-- the turn, and one that needs it by a plan that was at hand, or it is a task, but where there was
-- no memory for one
abbrev pub HasBegunAt : DeskShape → DeskShape → ℕ → Begun → Type 0
HasBegunAt d e lane (begun.Task t) = (next_asks_search d lane ≡ true) ×
    (IsTask d lane t × (IsSoundDesk d × (e ≡ d)))
HasBegunAt d e lane begun.Served = (next_asks_search d lane ≡ false) × HasServed d e lane true
HasBegunAt d e lane begun.Planned = (next_asks_search d lane ≡ true) × HasPlanned d e lane
HasBegunAt d e lane begun.Lacking = (next_asks_search d lane ≡ true) × HasServed d e lane true
HasBegunAt d e lane begun.Ended = (next_job d lane ≡ None) × (e ≡ d)

-- and in a turn
abbrev pub BeginsTurn : LaneShape Fixed Entry → LaneShape Fixed Entry → ℕ → Begun → Type 0
BeginsTurn before after lane result =
    (d : DeskShape) × ((e : DeskShape) × (HasTurned before after d e × HasBegunAt d e lane result))

-- a task was begun at the desk that its lane has seen last
abbrev pub IsBegun : LaneShape Fixed Entry → ℕ → Task → Type 0
IsBegun s lane t = (d : DeskShape) × (HasSeenDesk s d × (IsTask d lane t × IsSoundDesk d))

-- a task was committed in a turn
abbrev pub HasCommittedTask : LaneShape Fixed Entry → LaneShape Fixed Entry → Task → Verdict →
    Outcome → Type 0
HasCommittedTask before after t v result =
    (d : DeskShape) × ((e : DeskShape) × (HasTurned before after d e × HasCommitted d e t v result))

-- a lane has no job left at the desk that it has seen last
abbrev pub HasNoJobLeft : LaneShape Fixed Entry → ℕ → Type 0
HasNoJobLeft s lane = (d : DeskShape) × (HasSeenDesk s d × (next_job d lane ≡ None))

-- a lane of a desk that has n lanes or more
abbrev pub HasLanes : LaneShape Fixed Entry → ℕ → Type 0
HasLanes s n = (f : Fixed) × ((s.fixed ≡ Some f) × (n ≤ f.lanes))

-- a lane of a table, with its number, which does not have the desk
pub record IsIdle (at : TableId) (s : LaneShape Fixed Entry) (n : ℕ) : Type 0 where
  pub table : s.table ≡ at
  pub number : s.number ≡ Some n
  pub out : s.out ≡ false
  pub known : HasLanes s (n + 1)

-- the first lane of a table, which takes no turns
pub record IsFirst (at : TableId) (s : LaneShape Fixed Entry) : Type 0 where
  pub table : s.table ≡ at
  pub number : s.number ≡ None
  pub out : s.out ≡ false

-- it has made `next` lanes, and may make `count` more
pub record HasRoom (s : LaneShape Fixed Entry) (next count : ℕ) : Type 0 where
  pub made : s.made ≡ next
  pub table : next + count ≤ s.lanes
  pub desk : HasLanes s (next + count)

-- it has made each lane that the desk of its table has
abbrev pub HasMadeAll : LaneShape Fixed Entry → Type 0
HasMadeAll s = (f : Fixed) × ((s.fixed ≡ Some f) × (s.made ≡ f.lanes))

-- it has made the `count` lanes from the number `next` on, and they were joined into it
pub record HasJoined (before after : LaneShape Fixed Entry) (next count : ℕ) : Type 0 where
  pub fixed : after.fixed ≡ before.fixed
  pub made : after.made ≡ next + count
  pub those : (n : ℕ) → next ≤ n → n < next + count → Contains after.joined n
  pub earlier : (n : ℕ) → Contains before.joined n → Contains after.joined n
  pub seen : StartsWith after.seen before.seen
