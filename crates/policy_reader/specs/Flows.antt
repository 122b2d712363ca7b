-- The workflows of a policy file. Their faults carry the workflow's number.
use Rattle.std.specs.Prelude.{codes, ℕ, zero, suc, Bool, true, false, List, [], ◌∷◌, ◌++◌, length}
use Rattle.std.specs.Prelude.{Option, None, Some, Ok, Err, slice_index_or}
use Rattle.std.specs.FinSet as set
use Rattle.toml.specs.Data.{Data, Members, get_member}
use Rattle.wf_names.specs.declared.limits.TheConstants.{FLOW_LIMIT}
use Rattle.policy_reader.specs.Laws.Grammars.{Grammar}
use Rattle.basics.specs.Laws.Pairs.{Pairs}
use Rattle.workflow_schema.specs.Flows.{FlowShape, is_before}
use Rattle.policy_book.specs.Laws.Shapes.{PolicyShape, WorkflowShape}
use Rattle.basics.specs.Laws.Reading.{◌>>=◌, each}
use Rattle.policy_reader.specs.declared.fault.PolicyPart.TheVariants.{Flows}
use Rattle.policy_reader.specs.declared.fault.PolicyKind.TheVariants as kind
use Rattle.policy_reader.specs.declared.format.Format.{Format}
use Rattle.policy_reader.specs.Faults.{Reading, fault_about}
use Rattle.policy_reader.specs.Parts.{items, entries, array_in, table_in, table_at, items_at}
use Rattle.policy_reader.specs.Parts.{entries_at, name_in, number_in, named_in, said, once}
use Rattle.policy_reader.specs.Parts.{next_name, next_pair, no_others}
use Rattle.policy_reader.specs.Rules.{rules_of}

-- the steps of a workflow: an array of distinct names
unfoldable pub steps_named : Grammar → ℕ → Members → Reading (List (List ℕ))
steps_named g f ms = do
  steps ← items_at Flows f g.steps (codes "steps") ms
  each (next_name Flows f) [] (items steps)

-- the pairs of the order in an array of them
unfoldable pub order_in : ℕ → List (List ℕ) → Data → Reading Pairs
order_in f steps d = do
  pairs ← array_in Flows f d
  each (next_pair Flows f steps) set.empty (items pairs)

-- the pairs of the order, where there are any
unfoldable pub order_pairs : ℕ → List (List ℕ) → Members → Reading Pairs
order_pairs f steps ms = elim (get_member (codes "order") ms) [
  | None ↦ Ok set.empty
  | Some d ↦ order_in f steps d
]

-- the number n where it passes and no lower one was found
abbrev pub found_or : Option ℕ → ℕ → Bool → Option ℕ
found_or (Some s) n passes = Some s
found_or None n true = Some n
found_or None n false = None

-- the least number below n that passes
abbrev pub least_below : ℕ → (ℕ → Bool) → Option ℕ
least_below zero test = None
least_below (suc n) test = found_or (least_below n test) n (test n)

-- the step that was found before itself is at fault
abbrev pub cycle_at : ℕ → List (List ℕ) → Option ℕ → Reading (Unit {0})
cycle_at f steps None = Ok tt
cycle_at f steps (Some s) = Err (fault_about kind.Cycle Flows f (slice_index_or steps s []))

-- no step is before itself; the least such step is at fault
unfoldable pub no_cycle : ℕ → List (List ℕ) → Pairs → Reading (Unit {0})
no_cycle f steps order = cycle_at f steps (least_below (length steps) (λ s. is_before order s s))

-- the next role that is permitted for the step s
unfoldable pub next_permitted : ℕ → List (List ℕ) → ℕ → FlowShape → Data → Reading FlowShape
next_permitted f roles s so_far d = do
  r ← named_in Flows f roles d
  _ ← once Flows f (said d) (set.contains so_far.permits (r, s))
  Ok (record so_far { permits = set.insert so_far.permits (r, s) })

-- the next step that roles are permitted for: a step, and an array of distinct roles
unfoldable pub next_permit : ℕ → List (List ℕ) → FlowShape → List ℕ × Data → Reading FlowShape
next_permit f roles so_far entry = do
  s ← number_in Flows f so_far.steps entry.0
  permitted ← array_in Flows f entry.1
  each (next_permitted f roles s) so_far (items permitted)

-- the permissions of a workflow: a table of them by step
unfoldable pub permits_of : ℕ → List (List ℕ) → FlowShape → Members → Reading FlowShape
permits_of f roles flow ms = do
  permits ← table_at Flows f (codes "permit") ms
  each (next_permit f roles) flow (entries permits)

-- steps in an order without a cycle, which are permitted to no role yet
unfoldable pub ordered_in : ℕ → List (List ℕ) → Members → Reading FlowShape
ordered_in f steps ms = do
  order ← order_pairs f steps ms
  _ ← no_cycle f steps order
  Ok (record { steps = steps; order = order; permits = set.empty })

-- the steps, the order and the permissions of a workflow
unfoldable pub flow_in : Grammar → ℕ → List (List ℕ) → Members → Reading FlowShape
flow_in g f roles ms = do
  steps ← steps_named g f ms
  ordered ← ordered_in f steps ms
  permits_of f roles ordered ms

-- a workflow with the rules of its table
unfoldable pub ruled_in : Format → PolicyShape → ℕ → FlowShape → Members → Reading WorkflowShape
ruled_in format p f flow ms = do
  rules ← rules_of format f p.relations flow.steps ms
  Ok (record { flow = flow; rules = rules; retired = false })

-- the workflow in a table: its steps, order, permissions and rules
unfoldable pub workflow_in : Grammar → Format → PolicyShape → Members → Reading WorkflowShape
workflow_in g format p ms = do
  let f = length p.flows
  _ ← no_others Flows f (codes "order" ∷ codes "permit" ∷ codes "rules" ∷ codes "steps" ∷ []) ms
  flow ← flow_in g f p.roster.roles ms
  ruled_in format p f flow ms

-- the policy with a workflow that was read
abbrev pub with_workflow : PolicyShape → List ℕ → Reading WorkflowShape → Reading PolicyShape
with_workflow p name read = read >>= (λ workflow. Ok
    (record p { flow_names = p.flow_names ++ name ∷ []; flows = p.flows ++ workflow ∷ [] }))

-- the next workflow: a name, and a table
unfoldable pub next_flow : Grammar → Format → PolicyShape → List ℕ × Data → Reading PolicyShape
next_flow g format p entry = do
  let f = length p.flows
  _ ← name_in Flows f entry.0
  ms ← table_in Flows f entry.1
  with_workflow p entry.0 (workflow_in g format p ms)

-- the workflows: a table of them by name
unfoldable pub flows_in : Grammar → Format → PolicyShape → Members → Reading PolicyShape
flows_in g format p file = do
  flows ← entries_at Flows 0 FLOW_LIMIT (codes "flows") file
  each (next_flow g format) p (entries flows)
