-- Why a claim is denied, before it is asked whether its case can still be completed.
use Rattle.std.specs.Prelude.{ℕ, ◌+◌, Bool, true, false, List, [], ◌∷◌, length, Option, None, Some}
use Rattle.std.specs.Prelude.{option_map, slice_set, if◌then◌else◌}
use Rattle.std.specs.FinSet as set
use Rattle.wf_names.specs.States.{user_of}
use Rattle.constraint_forms.specs.declared.rule.Rule.{Rule}
use Rattle.constraint_forms.specs.Assign.{user_at}
use Rattle.constraint_forms.specs.Rules.{Relating, is_falsified}
use Rattle.policy_book.specs.Laws.Shapes.{PolicyShape}
use Rattle.policy_book.specs.Policies.{flow_at, is_authorised, problem_of}
use Rattle.policy_book.specs.Laws.Refuting.{passing}
use Rattle.case_record.specs.Cases.{CaseShape, assigned_of, state_at}
use Rattle.case_record.specs.Order.{first_missing}
use Rattle.wf_talk.specs.declared.reply.Denial.{Denial}
use Rattle.wf_talk.specs.declared.reply.Denial.TheVariants.{Taken, Order, Role}
use Rattle.wf_talk.specs.declared.reply.Denial.TheVariants as denial

-- the first of these that there is
abbrev pub first_of : {A : Type 0} → List (Option A) → Option A
first_of [] = None
first_of (Some x ∷ rest) = Some x
first_of (None ∷ rest) = first_of rest

-- a denial, unless the test passes
abbrev pub unless : Bool → Denial → Option Denial
unless true d = None
unless false d = Some d

-- the roles that are permitted for a step, ascending
abbrev pub permitted_roles : PolicyShape → ℕ → ℕ → List ℕ
permitted_roles p f s =
    passing (λ r. set.contains (flow_at p f).flow.permits (r, s)) 0 (length p.roster.roles)

-- the number of the first rule that is falsified, of rules of which the first has the number k
abbrev pub first_falsified : Relating → (ℕ → Option ℕ) → ℕ → List Rule → Option ℕ
first_falsified related users k [] = None
first_falsified related users k (r ∷ rs) =
    if is_falsified related r users then Some k else first_falsified related users (k + 1) rs

-- what is assigned in a case, and a step given to a user with it
abbrev pub assigned_with : CaseShape → ℕ → ℕ → List (Option ℕ)
assigned_with c s u = slice_set (assigned_of c) s (Some u)

-- why a user may not claim a step of a case: the step is held or finished by somebody, a step that
-- comes before is not finished, the user is not authorised, or a rule would be falsified
abbrev pub first_cause : PolicyShape → CaseShape → ℕ → ℕ → Option Denial
first_cause p c s u = first_of
    (option_map Taken (user_of (state_at c s))
    ∷ option_map (Order c.flow) (first_missing c (flow_at p c.flow).flow.order s)
    ∷ unless (is_authorised p c.flow s u) (Role (permitted_roles p c.flow s))
    ∷ option_map denial.Rule (first_falsified (problem_of p c.flow).related
    (user_at (assigned_with c s u)) 0 (flow_at p c.flow).rules)
    ∷ [])

-- a cause that takes memory: it has a list of roles
abbrev pub takes_memory : Option Denial → Bool
takes_memory None = false
takes_memory (Some (Role roles)) = true
takes_memory (Some d) = false
