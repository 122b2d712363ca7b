-- Inside: where a declared relation is kept.
use Rattle.std.specs.Prelude.{◌≡◌, ℕ, ◌+◌, ◌<◌}

-- the relation with the number rho stands at i among n declared ones
pub record IsPlace (n rho i : ℕ) : Type 0 where
  pub in_range : i < n
  pub is : rho ≡ i + 2
