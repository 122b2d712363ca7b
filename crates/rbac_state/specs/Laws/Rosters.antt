-- A roster, as contracts see it.
use Rattle.std.specs.Prelude.{ℕ, ◌<◌, ◌≤◌, Bool, List, length, refl}
use Rattle.std.specs.Coded.{Coded, code_by, coded×, coded_list, coded_ℕ}
use Rattle.std.specs.FinSet as set
use Rattle.basics.specs.Laws.Pairs.{Pairs, pairs_code, AllPairs}
use Rattle.wf_names.specs.declared.limits.TheConstants.{USER_LIMIT, ROLE_LIMIT}

-- the names of the users and of the roles, by their numbers, and the pairs (user, role) of who has
-- which role
pub record RosterShape : Type 0 where
  pub users : List (List ℕ)
  pub roles : List (List ℕ)
  pub members : Pairs

-- by which values that hold a roster are told apart
abbrev pub roster_code : Coded RosterShape
roster_code =
    code_by (List (List ℕ) × (List (List ℕ) × Pairs)) (coded×
    (coded_list (coded_list coded_ℕ)) (coded× (coded_list (coded_list coded_ℕ)) pairs_code))
    (λ r. (r.users, (r.roles, r.members)))
    (λ p. record { users = p.0; roles = p.1.0; members = p.1.1 }) (λ _. refl)

-- the user has the role
abbrev pub has_role : RosterShape → ℕ → ℕ → Bool
has_role roster u r = set.contains roster.members (u, r)

-- within the limits, and each role is held by a user of the roster and is a role of it
pub record IsSoundRoster (roster : RosterShape) : Type 0 where
  pub users : length roster.users ≤ USER_LIMIT
  pub roles : length roster.roles ≤ ROLE_LIMIT
  pub members : AllPairs (λ u r. (u < length roster.users) × (r < length roster.roles))
      roster.members
