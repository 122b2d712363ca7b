-- What the plans of a workflow must meet.
use Rattle.std.specs.Prelude.{◌≡◌, ℕ, ◌<◌, Bool, false, List, length, Option, Some, slice_get}
use Rattle.std.specs.Prelude.{IsTrue}
use Rattle.constraint_forms.specs.declared.rule.Rule.{Rule}
use Rattle.constraint_forms.specs.Assign.{user_at, planned, is_member}
use Rattle.constraint_forms.specs.Rules.{Relating, is_satisfied, IsRuleOf}
use Rattle.constraint_forms.specs.Laws.{IsExtension}

-- all that a policy says of one workflow: how many steps it has and how many users there are,
-- who is authorised for a step, who is related to whom, and the rules
pub record Problem : Type 0 where
  pub steps : ℕ
  pub users : ℕ
  pub authorised : ℕ → ℕ → Bool
  pub related : Relating
  pub rules : List Rule

-- each rule names steps of the workflow alone
abbrev pub IsWellFormed : Problem → Type 0
IsWellFormed p = (k : ℕ) (rule : Rule) → slice_get p.rules k ≡ Some rule → IsRuleOf p.steps rule

-- a plan is valid for an assignment and the finished steps
pub record IsValidPlan (p : Problem) (assigned : List (Option ℕ)) (finished : List Bool)
    (plan : List ℕ) : Type 0 where
  -- it has a user for each step
  pub whole : length plan ≡ p.steps
  pub known : (s : ℕ) → s < p.steps → planned plan s < p.users
  -- it keeps what is assigned
  pub keeps : IsExtension (user_at assigned) (λ s. Some (planned plan s))
  -- each step that is not finished goes to a user who is authorised for it
  pub allowed : (s : ℕ) → s < p.steps → is_member finished s ≡ false →
      IsTrue (p.authorised s (planned plan s))
  -- each rule is satisfied
  pub obeyed : (k : ℕ) (rule : Rule) → slice_get p.rules k ≡ Some rule →
      IsTrue (is_satisfied p.related rule (planned plan))

-- some plan is valid
abbrev pub IsCompletable : Problem → List (Option ℕ) → List Bool → Type 0
IsCompletable p assigned finished = (plan : List ℕ) × IsValidPlan p assigned finished plan

-- an assignment gives users of the policy to steps of the workflow
pub record IsWithin (p : Problem) (assigned : List (Option ℕ)) : Type 0 where
  pub steps : (s u : ℕ) → user_at assigned s ≡ Some u → s < p.steps
  pub users : (s u : ℕ) → user_at assigned s ≡ Some u → u < p.users

-- each finished step is assigned
abbrev pub AreAssigned : List Bool → List (Option ℕ) → Type 0
AreAssigned finished assigned = (s : ℕ) → IsTrue (is_member finished s) → (u : ℕ) ×
    (user_at assigned s ≡ Some u)
