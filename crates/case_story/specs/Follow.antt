-- Inside: how far a transcript is followed.
use Rattle.std.specs.Prelude.{ℕ, ◌≤◌}

-- a number is not below the first, and not above the last
pub record IsBetween (first n last : ℕ) : Type 0 where
  pub least : first ≤ n
  pub most : n ≤ last
