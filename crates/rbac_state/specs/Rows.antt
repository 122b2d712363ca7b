-- Inside: how memberships are kept, as a row of users for each role.
use Rattle.std.specs.Prelude.{◌≡◌, ℕ, ◌<◌, Bool, true, List, [], slice_index_or}
use Rattle.basics.specs.Laws.Pairs.{Pairs}
use Rattle.basics.specs.Tables.{set_of}
use Rattle.wf_names.specs.declared.limits.TheConstants.{USER_LIMIT, ROLE_LIMIT}
use Rattle.wf_names.specs.UserSets.{has_user}

-- the row of a role has a user
abbrev pub role_row_has : List (List ℕ) → ℕ → ℕ → Bool
role_row_has rows u r = has_user (slice_index_or rows r []) u

-- the pairs (user, role) of the rows
unfoldable pub memberships_of : List (List ℕ) → Pairs
memberships_of rows = set_of (role_row_has rows) USER_LIMIT ROLE_LIMIT

-- users and roles of the rows are within the limits
pub record AreWithinLimits (rows : List (List ℕ)) : Type 0 where
  pub each : (u r : ℕ) → role_row_has rows u r ≡ true → (u < USER_LIMIT) × (r < ROLE_LIMIT)
