-- What every policy keeps.
use Rattle.std.specs.Prelude.{◌≡◌, ℕ, ◌+◌, ◌<◌, ◌≤◌, Bool, true, List, length, Some, slice_get}
use Rattle.std.specs.Prelude.{IsTrue}
use Rattle.std.specs.FinSet as set
use Rattle.wf_names.specs.declared.limits.TheConstants.{FLOW_LIMIT, ROLE_LIMIT, RULE_LIMIT}
use Rattle.wf_names.specs.declared.limits.TheConstants.{USER_LIMIT}
use Rattle.workflow_schema.specs.Flows.{FlowShape}
use Rattle.basics.specs.Laws.Pairs.{Pairs, AllPairs}
use Rattle.user_relations.specs.Laws.Relations.{RelationShape, listed, kind_of}
use Rattle.constraint_forms.specs.declared.rule.Rule.{Rule}
use Rattle.constraint_forms.specs.declared.rule.Rule.TheVariants.{Pair, SomeOf, AllOf, SomeTo}
use Rattle.constraint_forms.specs.declared.rule.Rule.TheVariants.{AllTo, AtMost, AtLeast}
use Rattle.constraint_forms.specs.Rules.{any_from, count_members, reads, IsRuleOf}
use Rattle.policy_book.specs.Laws.Shapes.{PolicyShape, WorkflowShape}
use Rattle.policy_book.specs.Policies.{flow_at}

-- in each listed relation both users of a pair have numbers below `users`
abbrev pub AreOfUsers : ℕ → List RelationShape → Type 0
AreOfUsers users relations = (rho : ℕ) (pairs : Pairs) → kind_of relations rho ≡ Some
    (listed pairs) → AllPairs (λ u v. (u < users) × (v < users)) pairs

-- a number of users that a group can have: from 1 to the number of its steps
abbrev pub IsWithinGroup : ℕ → List Bool → Type 0
IsWithinGroup limit group = (0 < limit) × (limit ≤ count_members group)

-- a rule over a group of steps has some step in it, and a number is one that the group can have
abbrev pub HasMembers : Rule → Type 0
HasMembers (Pair rho first second) = Unit {0}
HasMembers (SomeOf rho group step) = IsTrue (any_from 0 group (λ _. true))
HasMembers (AllOf rho group step) = IsTrue (any_from 0 group (λ _. true))
HasMembers (SomeTo rho step group) = IsTrue (any_from 0 group (λ _. true))
HasMembers (AllTo rho step group) = IsTrue (any_from 0 group (λ _. true))
HasMembers (AtMost limit group) = IsWithinGroup limit group
HasMembers (AtLeast limit group) = IsWithinGroup limit group

-- a rule of a workflow with `steps` steps, in a policy with `relations` declared relations
pub record IsSoundRule (steps relations : ℕ) (rule : Rule) : Type 0 where
  pub names : IsRuleOf steps rule
  pub known : (rho : ℕ) → IsTrue (reads rule rho) → rho < relations + 2
  pub members : HasMembers rule

-- each rule of the list is such a rule
abbrev pub AreSoundRules : ℕ → ℕ → List Rule → Type 0
AreSoundRules steps relations rules = (k : ℕ) (rule : Rule) → slice_get rules k ≡ Some rule →
    IsSoundRule steps relations rule

-- a workflow permits its steps to no role but those with numbers below `roles`
abbrev pub PermitsRolesBelow : ℕ → FlowShape → Type 0
PermitsRolesBelow roles flow = (r s : ℕ) → set.contains flow.permits (r, s) ≡ true → r < roles

-- a workflow of a policy with `roles` roles and `relations` declared relations
pub record IsSoundWorkflow (roles relations : ℕ) (w : WorkflowShape) : Type 0 where
  pub permitted : PermitsRolesBelow roles w.flow
  pub few : length w.rules ≤ RULE_LIMIT
  pub ruled : AreSoundRules (length w.flow.steps) relations w.rules

-- numbers are in range and limits are met
pub record IsSoundPolicy (p : PolicyShape) : Type 0 where
  pub users : length p.roster.users ≤ USER_LIMIT
  pub roles : length p.roster.roles ≤ ROLE_LIMIT
  pub admin : p.admin < length p.roster.roles
  pub named : length p.flow_names ≡ length p.flows
  pub few : length p.flows ≤ FLOW_LIMIT
  pub related : AreOfUsers (length p.roster.users) p.relations
  pub flows : (f : ℕ) → f < length p.flows →
      IsSoundWorkflow (length p.roster.roles) (length p.relations) (flow_at p f)
