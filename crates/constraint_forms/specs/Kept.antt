-- Inside: what a pair of a rule's steps leaves of the users who could be given a step.
use Rattle.std.specs.Prelude.{ℕ, ◌+◌, ◌<◌, Bool, false, not, nat_lt, List, Option, None, Some}
use Rattle.std.specs.Prelude.{slice_set, IsTrue}
use Rattle.wf_names.specs.UserSets.{has_user}
use Rattle.constraint_forms.specs.Rules.{Relating, are_unrelated, different, free_from, is_among}
use Rattle.constraint_forms.specs.Rules.{user_at, users_from}

-- with the step s given to u, the steps x and y are both assigned, and to unrelated users
abbrev pub are_unrelated_with : Relating → ℕ → List (Option ℕ) → ℕ → ℕ → ℕ → ℕ → Bool
are_unrelated_with related rho a x y s u =
    are_unrelated related rho (user_at (slice_set a s (Some u)) x)
    (user_at (slice_set a s (Some u)) y)

-- with the step s given to u, the members have more users than the limit
abbrev pub too_many_with : ℕ → List Bool → List (Option ℕ) → ℕ → ℕ → Bool
too_many_with limit group a s u =
    nat_lt limit (different (users_from 0 group (user_at (slice_set a s (Some u)))))

-- with the step s given to u, the members have fewer users than the limit, even if each free one
-- gets another
abbrev pub too_few_with : ℕ → List Bool → List (Option ℕ) → ℕ → ℕ → Bool
too_few_with limit group a s u =
    nat_lt (different (users_from 0 group (user_at (slice_set a s (Some u)))) + free_from 0
    group (user_at (slice_set a s (Some u)))) limit

-- a set has no user from n on
abbrev pub IsBelow : ℕ → List ℕ → Type 0
IsBelow n words = (u : ℕ) → IsTrue (has_user words u) → u < n

-- a step's user counts before others: there is one, and they are not among them
abbrev pub counts_before : Option ℕ → List ℕ → Bool
counts_before None us = false
counts_before (Some u) us = not (is_among us u)
