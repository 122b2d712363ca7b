-- A workflow with only some of its rules, and which of its rules cannot be met together.
use Rattle.std.specs.Prelude.{◌≡◌, ℕ, ◌+◌, ◌<◌, ◌≤◌, Bool, true, ◌==◌, List, [], ◌∷◌, length}
use Rattle.std.specs.Prelude.{Option, None, Some, if◌then◌else◌, slice_get}
use Rattle.constraint_forms.specs.declared.rule.Rule.{Rule}
use Rattle.policy_book.specs.Laws.Shapes.{PolicyShape}
use Rattle.policy_book.specs.Policies.{problem_of}
use Rattle.policy_book.specs.Laws.Plans.{Problem, IsCompletable}
use Rattle.policy_book.specs.Laws.Twins.{is_one_of}

-- a rule before others, where there is one
abbrev pub rule_onto : Option Rule → List Rule → List Rule
rule_onto None rules = rules
rule_onto (Some rule) rules = rule ∷ rules

-- the rules with these numbers, in the order of the numbers
abbrev pub rules_at : List Rule → List ℕ → List Rule
rules_at rules [] = []
rules_at rules (k ∷ ks) = rule_onto (slice_get rules k) (rules_at rules ks)

-- a workflow with the rules of these numbers alone
abbrev pub problem_with : Problem → List ℕ → Problem
problem_with p numbers = record p { rules = rules_at p.rules numbers }

-- numbers without one of them
abbrev pub without : ℕ → List ℕ → List ℕ
without k [] = []
without k (j ∷ js) = if j == k then without k js else j ∷ without k js

-- numbers from k to below n, each once, in their order
abbrev pub AreAscending : ℕ → ℕ → List ℕ → Type 0
AreAscending k n [] = Unit {0}
AreAscending k n (j ∷ js) = (k ≤ j) × (j < n) × AreAscending (j + 1) n js

-- rules that cannot be met together: with them alone there is no valid plan
pub record IsBlocked (p : Problem) (assigned : List (Option ℕ)) (finished : List Bool)
    (numbers : List ℕ) : Type 0 where
  pub known : AreAscending 0 (length p.rules) numbers
  pub fails : ¬ IsCompletable (problem_with p numbers) assigned finished

-- the same, and none of them can be left out: without any one of them there is a valid plan
pub record IsCore (p : Problem) (assigned : List (Option ℕ)) (finished : List Bool)
    (numbers : List ℕ) : Type 0 where
  pub known : AreAscending 0 (length p.rules) numbers
  pub fails : ¬ IsCompletable (problem_with p numbers) assigned finished
  pub needed : (k : ℕ) → is_one_of numbers k ≡ true →
      IsCompletable (problem_with p (without k numbers)) assigned finished

-- a policy whose only workflow has the rules of these numbers alone, and else is the problem's
pub record IsWithRules (p : Problem) (numbers : List ℕ) (left : PolicyShape) : Type 0 where
  pub alone : length left.flows ≡ 1
  pub problem : problem_of left 0 ≡ problem_with p numbers

-- each number is one of others
abbrev pub AreSomeOf : List ℕ → List ℕ → Type 0
AreSomeOf some all = (k : ℕ) → is_one_of some k ≡ true → is_one_of all k ≡ true

-- what can be completed under some rules can be completed under fewer
abbrev pub FewerIsEasier : Type 0
FewerIsEasier =
    (p : Problem) (some all : List ℕ) (assigned : List (Option ℕ)) (finished : List Bool) →
    AreSomeOf some all → IsCompletable (problem_with p all) assigned finished →
    IsCompletable (problem_with p some) assigned finished
