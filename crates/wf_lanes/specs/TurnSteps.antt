-- Inside: how far the turns are.
use Rattle.std.specs.Prelude.{◌≡◌, ℕ, ◌+◌, ◌<◌, ◌≤◌, List, ◌++◌, None}
use Rattle.std.proofs.Common.{◌⊎◌}
use Rattle.wf_talk.specs.declared.entry.Entry.{Entry}
use Rattle.wf_desk.specs.Desks.{DeskShape, next_job}
use Rattle.wf_lanes.specs.Turns.{AreByTurns, HasServedOn, turns_of}

-- these entries came by turns and left the desk d so: each lane has had `turns` turns, the lanes
-- before `lane` one more, and a lane that has had fewer has no job left
pub record IsAtTurn (entries : List Entry) (turns lane : ℕ) (d : DeskShape) : Type 0 where
  pub order : AreByTurns entries
  pub most : (k : ℕ) → turns_of k entries ≤ turns + 1
  pub later_most : (k : ℕ) → lane ≤ k → turns_of k entries ≤ turns
  pub earlier_least : (k : ℕ) → k < lane → (next_job d k ≡ None) ⊎ (turns + 1 ≤ turns_of k entries)
  pub later_least : (k : ℕ) → lane ≤ k → (next_job d k ≡ None) ⊎ (turns ≤ turns_of k entries)

-- whatever turns were before: these entries are one more turn of each lane before `lane`
abbrev pub AreTurnsBefore : ℕ → DeskShape → DeskShape → List Entry → Type 0
AreTurnsBefore lane before after more =
    (earlier : List Entry) (turns : ℕ) → IsAtTurn earlier turns 0 before →
    IsAtTurn (earlier ++ more) turns lane after

-- one more turn of each lane was served
pub record HasServedTurn (before after : DeskShape) : Type 0 where
  pub on : HasServedOn before after
  pub turn : (earlier : List Entry) (turns : ℕ) → IsAtTurn earlier turns 0 before →
      IsAtTurn (earlier ++ on.grown.more) (turns + 1) 0 after
