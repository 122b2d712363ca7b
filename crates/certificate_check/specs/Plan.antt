-- What is wrong with a plan, the first of it.
use Rattle.std.specs.Prelude.{ℕ, zero, suc, ◌+◌, Bool, true, not, ◌||◌, ◌==◌, List, length, Option}
use Rattle.std.specs.Prelude.{None, Some, Result, Ok, Err, if◌then◌else◌, slice_get}
use Rattle.constraint_forms.specs.declared.rule.Rule.{Rule}
use Rattle.constraint_forms.specs.Assign.{user_at, planned, is_member}
use Rattle.constraint_forms.specs.Rules.{is_satisfied, names}
use Rattle.policy_book.specs.Laws.Plans.{Problem}
use Rattle.certificate_check.specs.declared.plan.PlanFault.TheVariants.{Moved, Role}
use Rattle.certificate_check.specs.declared.plan.PlanFault.TheVariants.{Rule as Rule_fault}
use Rattle.certificate_check.specs.declared.plan.PlanFault.{PlanFault}

-- of the n numbers from k on the first that fails
abbrev pub first_failing : (ℕ → Bool) → ℕ → ℕ → Option ℕ
first_failing test k zero = None
first_failing test k (suc n) = if test k then first_failing test (k + 1) n else Some k

-- a user is the one assigned, where one is assigned
abbrev pub is_kept : Option ℕ → ℕ → Bool
is_kept None u = true
is_kept (Some v) u = v == u

-- a step is finished, or its user is authorised for it
abbrev pub may_perform : Problem → List Bool → List ℕ → ℕ → Bool
may_perform p finished plan s = is_member finished s || p.authorised s (planned plan s)

-- there is no such rule, or the plan satisfies it
abbrev pub is_obeyed : Problem → List ℕ → Option Rule → Bool
is_obeyed p plan None = true
is_obeyed p plan (Some rule) = is_satisfied p.related rule (planned plan)

-- there is no such rule, or it does not name a step, or the plan satisfies it
abbrev pub keeps_rule : Problem → List ℕ → ℕ → Option Rule → Bool
keeps_rule p plan step None = true
keeps_rule p plan step (Some rule) =
    not (names rule step) || is_satisfied p.related rule (planned plan)

-- the fault with a number, or else what comes next
abbrev pub fault_else : Option ℕ → (ℕ → PlanFault) → Result (Unit {0}) PlanFault →
    Result (Unit {0}) PlanFault
fault_else None fault next = next
fault_else (Some n) fault next = Err (fault n)

-- the first fault of a plan: an assigned step that has another user, then a step whose user is
-- not authorised, then a rule that is not satisfied, each time the least
abbrev pub plan_verdict : Problem → List (Option ℕ) → List Bool → List ℕ →
    Result (Unit {0}) PlanFault
plan_verdict p assigned finished plan =
    fault_else (first_failing (λ s. is_kept (user_at assigned s) (planned plan s)) 0 p.steps) Moved
    (fault_else (first_failing (may_perform p finished plan) 0 p.steps) Role
    (fault_else (first_failing (λ k. is_obeyed p plan (slice_get p.rules k)) 0 (length p.rules))
    Rule_fault
    (Ok tt)))
