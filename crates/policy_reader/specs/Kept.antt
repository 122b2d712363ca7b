-- Inside: what is true of the parts of a policy as they are read.
use Rattle.std.specs.Prelude.{◌≡◌, ℕ, ◌<◌, Bool, true, false, List, []}
use Rattle.std.specs.List.{AllByRecursion}
use Rattle.policy_book.specs.Laws.Facts.{PermitsRolesBelow}
use Rattle.policy_book.specs.Laws.Shapes.{PolicyShape}
use Rattle.workflow_schema.specs.Flows.{FlowShape}
use Rattle.workflow_schema.specs.declared.fault.FlowFault.{FlowFault}
use Rattle.workflow_schema.specs.declared.fault.FlowFault.TheVariants.{TooMany, Twice, Cycle}
use Rattle.workflow_schema.specs.declared.fault.FlowFault.TheVariants.{NoMemory}
use Rattle.constraint_forms.specs.Assign.{is_member}
use Rattle.policy_reader.specs.Laws.Printable.{IsFreshPolicy}

-- a group has only steps below n
abbrev pub HasStepsBelow : ℕ → List Bool → Type 0
HasStepsBelow n group = (s : ℕ) → is_member group s ≡ true → s < n

-- a workflow was refused for a step before itself or for want of memory
abbrev pub IsCycleOrMemory : FlowFault → Type 0
IsCycleOrMemory TooMany = ⊥
IsCycleOrMemory Twice = ⊥
IsCycleOrMemory (Cycle s) = Unit {0}
IsCycleOrMemory NoMemory = Unit {0}

-- a workflow with the same steps, permitted to roles below n alone
pub record HasPermitted (n : ℕ) (before after : FlowShape) : Type 0 where
  pub steps : after.steps ≡ before.steps
  pub roles : PermitsRolesBelow n after

-- a policy before its workflows are read
pub record IsBare (p : PolicyShape) : Type 0 where
  pub begun : IsFreshPolicy p
  pub names : p.flow_names ≡ []
  pub flows : p.flows ≡ []

-- a policy with more workflows, none of them retired where none was before
pub record IsGrown (before after : PolicyShape) : Type 0 where
  pub roster : after.roster ≡ before.roster
  pub relations : after.relations ≡ before.relations
  pub admin : after.admin ≡ before.admin
  pub active : AllByRecursion (λ w. w.retired ≡ false) before.flows →
      AllByRecursion (λ w. w.retired ≡ false) after.flows
