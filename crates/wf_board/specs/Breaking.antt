-- Inside: what of a valid plan a change of the policy makes invalid.
use Rattle.std.specs.Prelude.{◌≡◌, ℕ, ◌<◌, ◌==◌, ◌&&◌, not, Bool, false, List, length, Option, None}
use Rattle.std.specs.Prelude.{Some, slice_get}
use Rattle.wf_names.specs.States.{is_finished}
use Rattle.user_relations.specs.Laws.Relations.{RelationShape, is_related}
use Rattle.constraint_forms.specs.declared.rule.Rule.{Rule}
use Rattle.constraint_forms.specs.Assign.{planned}
use Rattle.constraint_forms.specs.Rules.{is_satisfied}
use Rattle.policy_book.specs.Laws.Shapes.{PolicyShape}
use Rattle.policy_book.specs.Policies.{any_below, flow_at, is_authorised}
use Rattle.case_record.specs.Cases.{CaseShape, state_at}
use Rattle.admin_edits.specs.declared.amendment.Amendment.{Amendment}
use Rattle.admin_edits.specs.declared.amendment.Amendment.TheVariants as amend
use Rattle.admin_edits.specs.Hurting.{is_over}

-- a plan gives each step of a workflow of the policy to a user of the policy
pub record HasPlanFor (q : PolicyShape) (f : ℕ) (plan : List ℕ) : Type 0 where
  pub flow : f < length q.flows
  pub whole : length plan ≡ length (flow_at q f).flow.steps
  pub users : (s : ℕ) → s < length plan → planned plan s < length q.roster.users

-- the step that a change forbids in the workflow of a plan is one of the plan
abbrev pub NamesStep : Amendment → ℕ → List ℕ → Type 0
NamesStep (amend.Forbid g r s) f plan = f ≡ g → s < length plan
NamesStep a f plan = Unit {0}

-- a step of a case is not finished, and its user may not perform it
abbrev pub is_barred : PolicyShape → CaseShape → List ℕ → ℕ → Bool
is_barred q c plan s =
    not (is_finished (state_at c s)) && not (is_authorised q c.flow s (planned plan s))

-- some step of a user is such a step
abbrev pub loses_step : PolicyShape → CaseShape → List ℕ → ℕ → Bool
loses_step q c plan u = any_below (length plan) (λ s. (planned plan s == u) && is_barred q c plan s)

-- a plan gives some step to a user
abbrev pub gives : List ℕ → ℕ → Bool
gives plan u = any_below (length plan) (λ s. planned plan s == u)

-- there is a rule, it reads a relation or its complement, and a plan does not satisfy it
abbrev pub is_broken_over : List RelationShape → PolicyShape → ℕ → List ℕ → Option Rule → Bool
is_broken_over relations q rho plan None = false
is_broken_over relations q rho plan (Some rule) =
    is_over relations rho rule && not (is_satisfied (is_related q.relations) rule (planned plan))

-- some rule of a workflow is such a rule
abbrev pub breaks_rule : List RelationShape → PolicyShape → ℕ → ℕ → List ℕ → Bool
breaks_rule relations q rho f plan =
    any_below (length (flow_at q f).rules)
    (λ k. is_broken_over relations q rho plan (slice_get (flow_at q f).rules k))

-- a change, after which the policy is q, makes a valid plan of a case invalid; pairs of users
-- matter to no plan that does not give steps to both
abbrev pub breaks : PolicyShape → PolicyShape → Amendment → CaseShape → List ℕ → Bool
breaks p q (amend.AddUser name) c plan = false
breaks p q (amend.Leave u) c plan = loses_step q c plan u
breaks p q (amend.Enrol u r) c plan = false
breaks p q (amend.Dismiss u r) c plan = loses_step q c plan u
breaks p q (amend.Relate rho u v) c plan =
    (gives plan u && gives plan v) && breaks_rule p.relations q rho c.flow plan
breaks p q (amend.Unrelate rho u v) c plan =
    (gives plan u && gives plan v) && breaks_rule p.relations q rho c.flow plan
breaks p q (amend.Permit f r s) c plan = false
breaks p q (amend.Forbid f r s) c plan = (c.flow == f) && is_barred q c plan s
breaks p q (amend.Retire f) c plan = false
