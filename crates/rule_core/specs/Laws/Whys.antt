-- Why a case can or cannot be completed.
use Rattle.std.specs.Prelude.{ℕ, Bool, List, Option}
use Rattle.policy_book.specs.Laws.Plans.{Problem, IsCompletable, IsValidPlan}
use Rattle.rule_core.specs.Search.{IsCore}
use Rattle.rule_core.specs.Crowds.{IsCrowd}
use Rattle.rule_core.specs.declared.search.Why.{Why}
use Rattle.rule_core.specs.declared.search.Why.TheVariants.{Plan, Crowd, Clash}

-- a plan is valid; where a crowd or rules that cannot be met together are told, there is no valid
-- plan
abbrev pub IsWhy : Problem → List (Option ℕ) → List Bool → Why → Type 0
IsWhy p assigned finished (Plan plan) = IsValidPlan p assigned finished plan
IsWhy p assigned finished (Crowd steps) = IsCrowd p assigned steps ×
    (¬ IsCompletable p assigned finished)
IsWhy p assigned finished (Clash rules) = IsCore p assigned finished rules ×
    (¬ IsCompletable p assigned finished)
