use Rattle.std.proofs.Common.{◌≡◌, List, ℕ, Option, None, Some, MatchOption, is_some, arith}
use Rattle.grant_table.proofs.Keeping.{planned_case}
use Rattle.grant_table.proofs.cases.Cases.kept_plan.Goals as goal

both_there : {X : Type 0} (o : Option X) (plan : Option (List ℕ)) (now : X → List ℕ) → MatchOption o (plan ≡ None) (λ x. plan ≡ Some (now x)) →
    is_some o ≡ is_some plan
both_there o plan now is = grind arith

pub returns-clause-open : goal.returns-clause-open
returns-clause-open c = grind (arith, both_there, planned_case)
