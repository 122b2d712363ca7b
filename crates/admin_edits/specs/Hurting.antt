-- Which changes of a policy may make a valid plan invalid.
use Rattle.std.specs.Prelude.{◌≡◌, ◌==◌, ◌&&◌, ◌||◌, not, ℕ, Bool, false, List, length, Option}
use Rattle.std.specs.Prelude.{None, Some}
use Rattle.std.specs.List.{list_any}
use Rattle.rbac_state.specs.Laws.Rosters.{has_role}
use Rattle.user_relations.specs.Laws.Relations.{RelationShape, complement_of}
use Rattle.constraint_forms.specs.declared.rule.Rule.{Rule}
use Rattle.constraint_forms.specs.Assign.{is_member, planned}
use Rattle.constraint_forms.specs.Rules.{any_read}
use Rattle.policy_book.specs.Laws.Shapes.{PolicyShape}
use Rattle.policy_book.specs.Policies.{any_below, flow_at, problem_of}
use Rattle.policy_book.specs.Laws.Plans.{IsValidPlan}
use Rattle.admin_edits.specs.declared.amendment.Amendment.{Amendment}
use Rattle.admin_edits.specs.declared.amendment.Amendment.TheVariants as amend
use Rattle.admin_edits.specs.Laws.Edits.{amended}
use Rattle.admin_edits.specs.Amendment.{IsKnownChange}

-- a plan gives a step that is not finished to a user
abbrev pub gives_open : List Bool → List ℕ → ℕ → Bool
gives_open finished plan u =
    any_below (length plan) (λ s. not (is_member finished s) && (planned plan s == u))

-- there is a number, and it is this
abbrev pub is_number : ℕ → Option ℕ → Bool
is_number n None = false
is_number n (Some m) = m == n

-- a rule reads a relation or its complement
abbrev pub is_over : List RelationShape → ℕ → Rule → Bool
is_over relations rho rule =
    any_read rule (λ own. (own == rho) || is_number rho (complement_of relations own))

-- a change may make a plan of a workflow invalid: a role is taken away from a user to whom the plan
-- gives a step that is not finished; such a step is forbidden to a role of its user; or pairs of a
-- relation change that, or whose complement, a rule of the workflow reads
abbrev pub may_hurt : PolicyShape → Amendment → ℕ → List Bool → List ℕ → Bool
may_hurt p (amend.AddUser name) f finished plan = false
may_hurt p (amend.Leave u) f finished plan = gives_open finished plan u
may_hurt p (amend.Enrol u r) f finished plan = false
may_hurt p (amend.Dismiss u r) f finished plan = gives_open finished plan u
may_hurt p (amend.Relate rho u v) f finished plan =
    list_any (is_over p.relations rho) (flow_at p f).rules
may_hurt p (amend.Unrelate rho u v) f finished plan =
    list_any (is_over p.relations rho) (flow_at p f).rules
may_hurt p (amend.Permit g r s) f finished plan = false
may_hurt p (amend.Forbid g r s) f finished plan =
    (f == g) && (not (is_member finished s) && has_role p.roster (planned plan s) r)
may_hurt p (amend.Retire g) f finished plan = false

-- a valid plan that a change cannot hurt stays valid
abbrev pub UnhurtPlansStayValid : Type 0
UnhurtPlansStayValid =
    (p : PolicyShape) (a : Amendment) (f : ℕ) (assigned : List (Option ℕ))
    (finished : List Bool) (plan : List ℕ) →
    IsKnownChange p a → may_hurt p a f finished plan ≡ false →
    IsValidPlan (problem_of p f) assigned finished plan →
    IsValidPlan (problem_of (amended p a) f) assigned finished plan
