-- Absences: a policy in which some users have no role, and which of them a workflow can do without.
use Rattle.std.specs.Prelude.{◌≡◌, ℕ, ◌+◌, ◌<◌, ◌≤◌, Bool, true, false, not, ◌&&◌, ◌||◌, ◌==◌}
use Rattle.std.specs.Prelude.{nat_lt, List, [], ◌∷◌, length}
use Rattle.std.specs.FinSet as set
use Rattle.basics.specs.Laws.Pairs.{Pairs}
use Rattle.constraint_forms.specs.Assign.{no_users, no_steps}
use Rattle.policy_book.specs.Laws.Shapes.{PolicyShape}
use Rattle.policy_book.specs.Policies.{problem_of, with_roster}
use Rattle.policy_book.specs.Laws.Plans.{Problem, IsCompletable}
use Rattle.policy_book.specs.Laws.Twins.{is_one_of}

-- memberships without those of absent users
abbrev pub members_without : List ℕ → Pairs → Pairs
members_without absent members = set.retain members (λ q. not (is_one_of absent q.0))

-- a policy in which some users have no role
abbrev pub policy_without : PolicyShape → List ℕ → PolicyShape
policy_without p absent =
    with_roster p (record p.roster { members = members_without absent p.roster.members })

-- what is left of a workflow where some users are absent
abbrev pub problem_without : PolicyShape → ℕ → List ℕ → Problem
problem_without p f absent = problem_of (policy_without p absent) f

-- there is a valid plan without some users
abbrev pub CanDoWithout : PolicyShape → ℕ → List ℕ → Type 0
CanDoWithout p f absent = IsCompletable (problem_without p f absent) no_users no_steps

-- users among the first n
abbrev pub AreUsers : ℕ → List ℕ → Type 0
AreUsers n absent = (u : ℕ) → is_one_of absent u ≡ true → u < n

-- whichever at most t users are absent, there is a valid plan without them
abbrev pub IsResilient : PolicyShape → ℕ → ℕ → Type 0
IsResilient p f t =
    (absent : List ℕ) → AreUsers (length p.roster.users) absent → length absent ≤ t
    → CanDoWithout p f absent

-- users from k to below n, each once, in the order of their numbers
abbrev pub AreUsersInOrder : ℕ → ℕ → List ℕ → Type 0
AreUsersInOrder k n [] = Unit {0}
AreUsersInOrder k n (u ∷ us) = (k ≤ u) × (u < n) × AreUsersInOrder (u + 1) n us

-- of two lists of one length, the first user that differs is less in the first list
abbrev pub is_less : List ℕ → List ℕ → Bool
is_less [] vs = false
is_less (u ∷ us) [] = false
is_less (u ∷ us) (v ∷ vs) = nat_lt u v || ((u == v) && is_less us vs)

-- a list of users comes before another one: it is shorter, or as long and less
abbrev pub comes_before : List ℕ → List ℕ → Bool
comes_before us vs = nat_lt (length us) (length vs) || ((length us == length vs) && is_less us vs)

-- the first of all lists of at most t users without whom there is no valid plan
pub record IsLeastAbsence (p : PolicyShape) (f t : ℕ) (absent : List ℕ) : Type 0 where
  pub few : length absent ≤ t
  pub ascending : AreUsersInOrder 0 (length p.roster.users) absent
  pub breaks : ¬ CanDoWithout p f absent
  pub least : (other : List ℕ) → AreUsersInOrder 0 (length p.roster.users) other
      → comes_before other absent ≡ true → CanDoWithout p f other
