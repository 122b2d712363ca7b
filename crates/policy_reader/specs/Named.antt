-- Inside: what is known of a policy that was written.
use Rattle.std.specs.Prelude.{◌≡◌, ℕ, ◌<◌, List, length, Some, slice_get}
use Rattle.wf_names.specs.Table.{AreNames}
use Rattle.wf_names.specs.declared.limits.TheConstants.{STEP_LIMIT}
use Rattle.rbac_state.specs.Laws.Rosters.{IsSoundRoster}
use Rattle.user_relations.specs.Laws.Relations.{known_names}
use Rattle.user_relations.specs.Laws.Soundness.{AreSoundRelations}
use Rattle.workflow_schema.specs.Flows.{IsFlow}
use Rattle.constraint_forms.specs.declared.rule.Rule.{Rule}
use Rattle.constraint_forms.specs.declared.rule.Rule.TheVariants.{Pair, SomeOf, AllOf, SomeTo}
use Rattle.constraint_forms.specs.declared.rule.Rule.TheVariants.{AllTo, AtMost, AtLeast}
use Rattle.policy_book.specs.Laws.Shapes.{PolicyShape, WorkflowShape}
use Rattle.policy_book.specs.Laws.Facts.{IsSoundPolicy}
use Rattle.policy_book.specs.Policies.{flow_at}

-- a group has a flag for each step that there may be
abbrev pub HasFlags : Rule → Type 0
HasFlags (Pair rho first second) = Unit {0}
HasFlags (SomeOf rho group step) = length group ≡ STEP_LIMIT
HasFlags (AllOf rho group step) = length group ≡ STEP_LIMIT
HasFlags (SomeTo rho step group) = length group ≡ STEP_LIMIT
HasFlags (AllTo rho step group) = length group ≡ STEP_LIMIT
HasFlags (AtMost limit group) = length group ≡ STEP_LIMIT
HasFlags (AtLeast limit group) = length group ≡ STEP_LIMIT

abbrev pub HaveFlags : List Rule → Type 0
HaveFlags rules = (k : ℕ) (rule : Rule) → slice_get rules k ≡ Some rule → HasFlags rule

pub record IsNamedWorkflow (w : WorkflowShape) : Type 0 where
  pub kept : IsFlow w.flow
  pub steps : AreNames w.flow.steps
  pub flags : HaveFlags w.rules

pub record IsNamedPolicy (p : PolicyShape) : Type 0 where
  pub sound : IsSoundPolicy p
  pub roster : IsSoundRoster p.roster
  pub roles : AreNames p.roster.roles
  pub users : AreNames p.roster.users
  pub relations : AreSoundRelations p.relations
  pub related : AreNames (known_names p.relations)
  pub flow_names : AreNames p.flow_names
  pub flows : (f : ℕ) → f < length p.flows → IsNamedWorkflow (flow_at p f)
