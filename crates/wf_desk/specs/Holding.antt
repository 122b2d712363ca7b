-- Inside: what lanes hold while a schedule is gone through.
use Rattle.std.specs.Prelude.{◌≡◌, ℕ, ◌<◌, ◌≤◌, List, length, Option, Some}
use Rattle.wf_desk.specs.declared.schedule.Event.{Event}
use Rattle.wf_desk.specs.declared.schedule.Mark.{Mark}
use Rattle.wf_desk.specs.declared.schedule.Solved.{Solved}
use Rattle.wf_desk.specs.Desks.{DeskShape}
use Rattle.wf_desk.specs.Laws.Commits.{IsRightFor}
use Rattle.wf_desk.specs.Schedules.{HasDone, HasGrown, Standing, held_by}

-- a lane's task was taken from the desk, and its verdict is right for the state as it was then
pub record IsHeld (d : DeskShape) (of : ℕ) (x : Solved) : Type 0 where
  pub lane : x.task.lane ≡ of
  pub number : x.task.number ≤ length d.entries
  pub right : IsRightFor d x.task x.verdict

-- and so was each
abbrev pub AreHeld : DeskShape → List (Option Solved) → Type 0
AreHeld d held = (lane : ℕ) (x : Solved) → held_by held lane ≡ Some x → IsHeld d lane x

-- a desk with what its lanes hold
abbrev pub standing : DeskShape → List (Option Solved) → Standing
standing d held = record { desk = d; held = held }

-- a turn is of a lane of the desk, and what is held is so
pub record CanTurn (s : Standing) (of : ℕ) : Type 0 where
  pub lane : of < s.desk.lanes
  pub held : AreHeld s.desk s.held

-- a turn was taken and did what its mark says; there may be more entries, and what is held is so
pub record HasTurned (s : Standing) (event : Event) (mark : Mark) (t : Standing) : Type 0 where
  pub done : HasDone s event mark t
  pub held : AreHeld t.desk t.held
  pub grown : HasGrown s.desk t.desk
