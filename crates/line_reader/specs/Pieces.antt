-- An input that is taken piece by piece: what was taken and is not passed, and how far a reader has
-- to go.
use Rattle.std.specs.Prelude.{◌≡◌, ℕ, ◌+◌, ◌-◌, ◌*◌, ◌≤◌, List, length, Result, Ok, Err}
use Rattle.wf_outside.specs.Laws.Outside.{Rose}
use Rattle.wf_outside.specs.declared.source.Failed.{Failed}

-- the bytes that were taken and are not passed, and how many are taken at once at most
pub record PiecesShape : Type 0 where
  pub ahead : List ℕ
  pub room : ℕ

-- the count of faults of the source rose where taking a piece failed, and is as it was else
abbrev pub CountsFill : {A : Type 0} → Result A Failed → ℕ → ℕ → Type 0
CountsFill (Ok a) before after = after ≡ before
CountsFill (Err e) before after = (before ≤ after) × Rose before after

-- how many steps a reader has to do at most: each goes on in what is ahead, so that less is left,
-- or takes a piece where nothing is ahead
abbrev pub steps_left : ℕ → List ℕ → ℕ
steps_left left ahead = 2 * left + (1 - length ahead)
