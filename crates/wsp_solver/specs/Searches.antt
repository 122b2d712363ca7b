-- What a search answers, and how far it has come.
use Rattle.std.specs.Prelude.{◌≡◌, ℕ, zero, suc, ◌+◌, ◌-◌, ◌<◌, ◌≤◌, Bool, false, List, Option}
use Rattle.std.specs.Prelude.{Some, is_some, if◌then◌else◌, IsTrue, length, slice_get}
use Rattle.std.specs.Prelude.{slice_index_or}
use Rattle.constraint_forms.specs.Assign.{user_at, planned, is_member, no_steps}
use Rattle.refutation_tree.specs.Tree.{Shape, Kids, holder, rule, joined, nodes_of}
use Rattle.refutation_tree.specs.Laws.Views.{shape_of}
use Rattle.policy_book.specs.Laws.Plans.{Problem, IsValidPlan}
use Rattle.policy_book.specs.Laws.Refuting.{refutes, have_users, is_rule_naming, passing, mentions}
use Rattle.policy_book.specs.Laws.Refuting.{any_mentions}
use Rattle.policy_book.specs.Laws.Lean.{is_lean}
use Rattle.refutation_tree.specs.declared.tree.Tree.{Tree}
use Rattle.constraint_forms.specs.declared.rule.Rule.{Rule}
use Rattle.wsp_solver.specs.declared.leaf.Refutation.{Refutation}
use Rattle.wsp_solver.specs.declared.search.Searched.{Searched}
use Rattle.wsp_solver.specs.declared.search.Searched.TheVariants as searched
use Rattle.wsp_solver.specs.declared.search.Outcome.{Outcome}
use Rattle.wsp_solver.specs.declared.search.Outcome.TheVariants.{Plan, Refuted}

-- a tree refutes and is lean
pub record IsLeanRefutation (p : Problem) (assigned : List (Option ℕ)) (finished : List Bool)
    (tree : Tree) : Type 0 where
  pub refutes : IsTrue (refutes p assigned finished (shape_of tree))
  pub lean : IsTrue (is_lean p assigned (shape_of tree))

-- a plan that is valid, or a lean tree that refutes
abbrev pub HasSolved : Problem → List (Option ℕ) → List Bool → Outcome → Type 0
HasSolved p assigned finished (Plan plan) = IsValidPlan p assigned finished plan
HasSolved p assigned finished (Refuted tree) = IsLeanRefutation p assigned finished tree

-- a tree has at most `most` leaves and nodes
abbrev pub FitsRoom : ℕ → Outcome → Type 0
FitsRoom most (Plan plan) = Unit {0}
FitsRoom most (Refuted tree) = nodes_of (shape_of tree) ≤ most

-- a set has the steps that a tree mentions, and no other
abbrev pub AreMentioned : List Rule → Shape → List Bool → Type 0
AreMentioned rules tree steps = (s : ℕ) → mentions rules s tree ≡ is_member steps s

-- a table has the steps that each rule names
abbrev pub NamesSteps : Problem → List (List Bool) → Type 0
NamesSteps p named = (k : ℕ) → k < length named →
    AreMentioned p.rules (rule k) (slice_index_or named k no_steps)

-- a set has the steps that some branch mentions, and no other
abbrev pub AreMentionedIn : List Rule → Kids → List Bool → Type 0
AreMentionedIn rules kids steps = (s : ℕ) → any_mentions rules s kids ≡ is_member steps s

-- a tree refutes, and the set beside it has the steps that it mentions
pub record IsRefutation (p : Problem) (assigned : List (Option ℕ)) (finished : List Bool)
    (r : Refutation) : Type 0 where
  pub refutes : IsTrue (refutes p assigned finished (shape_of r.tree))
  pub steps : AreMentioned p.rules (shape_of r.tree) r.steps

-- a plan that is valid, or a lean tree that refutes; or neither, where the search is limited
abbrev pub HasDecided : Problem → List (Option ℕ) → List Bool → Bool → Searched → Type 0
HasDecided p assigned finished limited (searched.Plan plan) = IsValidPlan p assigned finished plan
HasDecided p assigned finished limited (searched.Refuted r) =
    IsLeanRefutation p assigned finished r.tree
HasDecided p assigned finished limited searched.Stopped = IsTrue limited

-- no step is held by a user who is not authorised for it, and no rule is falsified
pub record NoLeafRefutes (p : Problem) (assigned : List (Option ℕ)) (finished : List Bool) :
    Type 0 where
  pub holders : (s : ℕ) → refutes p assigned finished (holder s) ≡ false
  pub rules : (k : ℕ) → refutes p assigned finished (rule k) ≡ false

-- the same, of the rules that do not name a step
pub record NoLeafRefutesWithout (p : Problem) (assigned : List (Option ℕ))
    (finished : List Bool) (step : ℕ) : Type 0 where
  pub holders : (s : ℕ) → refutes p assigned finished (holder s) ≡ false
  pub rules : (k : ℕ) → is_rule_naming step (slice_get p.rules k) ≡ false →
      refutes p assigned finished (rule k) ≡ false

-- a plan gives each of the first n steps to the user whom the assignment gives it to
pub record IsAssignedPlan (n : ℕ) (assigned : List (Option ℕ)) (plan : List ℕ) : Type 0 where
  pub whole : length plan ≡ n
  pub given : (s : ℕ) → s < n → user_at assigned s ≡ Some (planned plan s)

-- how many of the first n steps are not assigned
abbrev pub free_count : List (Option ℕ) → ℕ → ℕ
free_count assigned zero = 0
free_count assigned (suc n) =
    (if is_some (user_at assigned n) then 0 else 1) + free_count assigned n

-- branches of those below u who pass: with branches of the others below n, they are of all below n
-- who pass
abbrev pub AreOfUsersBelow : (ℕ → Bool) → ℕ → ℕ → Kids → Type 0
AreOfUsersBelow test u n front =
    (rest : Kids) → IsTrue (have_users (passing test u (n - u)) rest) →
    IsTrue (have_users (passing test 0 n) (joined front rest))
