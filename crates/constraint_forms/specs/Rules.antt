-- What rules mean: over plans, and over partial assignments.
use Rattle.std.specs.Prelude.{ℕ, ◌+◌, ◌<◌, Bool, true, false, cond, not, ◌&&◌, ◌||◌, ◌==◌, nat_le}
use Rattle.std.specs.Prelude.{nat_lt, List, [], ◌∷◌, Option, None, Some, is_none, is_some, IsTrue}
use Rattle.constraint_forms.specs.Assign.{is_member}
pub use Rattle.constraint_forms.specs.Assign.{user_at, planned, is_member}
use Rattle.constraint_forms.specs.declared.rule.Rule.{Rule}
use Rattle.constraint_forms.specs.declared.rule.Rule.TheVariants.{Pair, SomeOf, AllOf, SomeTo}
use Rattle.constraint_forms.specs.declared.rule.Rule.TheVariants.{AllTo, AtMost, AtLeast}

-- whether a relation holds from one user to another
abbrev pub Relating : Type 0
Relating = ℕ → ℕ → ℕ → Bool

-- a relation as it is, or read the other way round
abbrev pub turned : Bool → Relating → Relating
turned false related = related
turned true related = λ rho u v. related rho v u

-- some member passes, of a set whose first flag is that of step k
abbrev pub any_from : ℕ → List Bool → (ℕ → Bool) → Bool
any_from k [] p = false
any_from k (b ∷ bs) p = (b && p k) || any_from (k + 1) bs p

-- every member passes, of a set whose first flag is that of step k
abbrev pub all_from : ℕ → List Bool → (ℕ → Bool) → Bool
all_from k [] p = true
all_from k (b ∷ bs) p = (not b || p k) && all_from (k + 1) bs p

-- both users are there, and they are unrelated
abbrev pub are_unrelated : Relating → ℕ → Option ℕ → Option ℕ → Bool
are_unrelated related rho None v = false
are_unrelated related rho (Some u) None = false
are_unrelated related rho (Some u) (Some v) = not (related rho u v)

-- how many members a set has
abbrev pub count_members : List Bool → ℕ
count_members [] = 0
count_members (b ∷ bs) = cond b 1 0 + count_members bs

-- a user before others, if there is one
abbrev pub user_onto : Option ℕ → List ℕ → List ℕ
user_onto None us = us
user_onto (Some u) us = u ∷ us

-- the users of the members, of a set whose first flag is that of step k
abbrev pub users_from : ℕ → List Bool → (ℕ → Option ℕ) → List ℕ
users_from k [] f = []
users_from k (true ∷ bs) f = user_onto (f k) (users_from (k + 1) bs f)
users_from k (false ∷ bs) f = users_from (k + 1) bs f

-- how many members have no user
abbrev pub free_from : ℕ → List Bool → (ℕ → Option ℕ) → ℕ
free_from k [] f = 0
free_from k (true ∷ bs) f = cond (is_none (f k)) 1 0 + free_from (k + 1) bs f
free_from k (false ∷ bs) f = free_from (k + 1) bs f

-- a user is one of a list
abbrev pub is_among : List ℕ → ℕ → Bool
is_among [] u = false
is_among (v ∷ vs) u = (v == u) || is_among vs u

-- how many different users are in a list: each counts where it stands last
abbrev pub different : List ℕ → ℕ
different [] = 0
different (u ∷ us) = cond (is_among us u) 0 1 + different us

-- a total assignment satisfies a rule
abbrev pub is_satisfied : Relating → Rule → (ℕ → ℕ) → Bool
is_satisfied related (Pair rho first second) f = related rho (f first) (f second)
is_satisfied related (SomeOf rho group step) f = any_from 0 group (λ x. related rho (f x) (f step))
is_satisfied related (AllOf rho group step) f = all_from 0 group (λ x. related rho (f x) (f step))
is_satisfied related (SomeTo rho step group) f = any_from 0 group (λ x. related rho (f step) (f x))
is_satisfied related (AllTo rho step group) f = all_from 0 group (λ x. related rho (f step) (f x))
is_satisfied related (AtMost limit group) f =
    nat_le (different (users_from 0 group (λ s. Some (f s)))) limit
is_satisfied related (AtLeast limit group) f =
    nat_le limit (different (users_from 0 group (λ s. Some (f s))))

-- a partial assignment falsifies a rule
abbrev pub is_falsified : Relating → Rule → (ℕ → Option ℕ) → Bool
is_falsified related (Pair rho first second) f = are_unrelated related rho (f first) (f second)
is_falsified related (SomeOf rho group step) f = is_some (f step) &&
    all_from 0 group (λ x. are_unrelated related rho (f x) (f step))
is_falsified related (AllOf rho group step) f =
    any_from 0 group (λ x. are_unrelated related rho (f x) (f step))
is_falsified related (SomeTo rho step group) f = is_some (f step) &&
    all_from 0 group (λ x. are_unrelated (turned true related) rho (f x) (f step))
is_falsified related (AllTo rho step group) f =
    any_from 0 group (λ x. are_unrelated (turned true related) rho (f x) (f step))
is_falsified related (AtMost limit group) f = nat_lt limit (different (users_from 0 group f))
is_falsified related (AtLeast limit group) f =
    nat_lt (different (users_from 0 group f) + free_from 0 group f) limit

-- a rule names a step
abbrev pub names : Rule → ℕ → Bool
names (Pair rho first second) s = (s == first) || (s == second)
names (SomeOf rho group step) s = (s == step) || is_member group s
names (AllOf rho group step) s = (s == step) || is_member group s
names (SomeTo rho step group) s = (s == step) || is_member group s
names (AllTo rho step group) s = (s == step) || is_member group s
names (AtMost limit group) s = is_member group s
names (AtLeast limit group) s = is_member group s

-- the relation that a rule reads, if it reads one; who is related by another cannot matter to it
abbrev pub relation_of : Rule → Option ℕ
relation_of (Pair rho first second) = Some rho
relation_of (SomeOf rho group step) = Some rho
relation_of (AllOf rho group step) = Some rho
relation_of (SomeTo rho step group) = Some rho
relation_of (AllTo rho step group) = Some rho
relation_of (AtMost limit group) = None
relation_of (AtLeast limit group) = None

-- what a test says of a relation, and what is said where there is none
abbrev pub said_of : Bool → (ℕ → Bool) → Option ℕ → Bool
said_of none p None = none
said_of none p (Some rho) = p rho

-- some relation that a rule reads passes
abbrev pub any_read : Rule → (ℕ → Bool) → Bool
any_read rule p = said_of false p (relation_of rule)

-- every relation that a rule reads passes
abbrev pub all_read : Rule → (ℕ → Bool) → Bool
all_read rule p = said_of true p (relation_of rule)

-- a rule reads a relation: who is related by it may matter to the rule
abbrev pub reads : Rule → ℕ → Bool
reads rule r = any_read rule (λ rho. r == rho)

-- a rule names only steps of a workflow with n steps
abbrev pub IsRuleOf : ℕ → Rule → Type 0
IsRuleOf n r = (s : ℕ) → IsTrue (names r s) → s < n
