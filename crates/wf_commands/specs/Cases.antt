-- The state of a case in the input: the JSON array `steps` of the reply to a view, or nothing.
use Rattle.std.specs.Prelude.{◌≡◌, ℕ, ◌+◌, ◌<◌, nat_eq, ◌==◌, Bool, true, List, [], ◌∷◌, length}
use Rattle.std.specs.Prelude.{codes, Option, None, Some, is_some, option_map, option_and_then}
use Rattle.std.specs.Prelude.{Result, Ok, if◌then◌else◌, slice_set}
use Rattle.std.specs.List.{list_all}
use Rattle.std.specs.Cmp.Lexicographic.{pointwise}
use Rattle.serde_json.specs.Data.{Data, Items, no_items, item}
use Rattle.serde_json.specs.Find.{as_str, as_array}
use Rattle.basics.specs.Laws.Reading.{◌>>=◌, or_fault, check, each}
use Rattle.wf_names.specs.declared.limits.TheConstants.{STEP_LIMIT}
use Rattle.wf_names.specs.declared.states.StepState.{StepState}
use Rattle.wf_names.specs.declared.states.StepState.TheVariants.{Free, Held, Finished}
use Rattle.constraint_forms.specs.Assign.{no_users, no_steps, user_at}
use Rattle.policy_book.specs.Laws.Shapes.{PolicyShape}
use Rattle.policy_book.specs.Laws.Plans.{Problem, AreAssigned, IsWithin}
use Rattle.wire_json.specs.Values.{value_of}
use Rattle.run_record.specs.declared.fault.InputFault.{InputFault}
use Rattle.run_record.specs.declared.fault.InputFault.TheVariants.{Syntax, Length, NoUser}
use Rattle.wf_commands.specs.Input.{listed_items, number_named}
use Rattle.wf_commands.specs.declared.case.Case.{Case}

-- a word that says that nobody has a step
abbrev pub free_said : List ℕ → Option (Option StepState)
free_said w = if pointwise nat_eq w (codes "free") then Some (Some Free) else None

-- a word that says that a user of this name holds a step, or has finished it, and whether there is
-- such a user
abbrev pub user_said : PolicyShape → List ℕ → List ℕ → Option (Option StepState)
user_said p w name =
    if pointwise nat_eq w (codes "held")
    then Some (option_map Held (number_named p.roster.users name)) else
    if pointwise nat_eq w (codes "finished")
    then Some (option_map Finished (number_named p.roster.users name)) else None

-- what the items of an array say of a step, as a view shows it: where it stands, unless its user is
-- not known; nothing where they are of no such form
abbrev pub said_at : PolicyShape → Items → Option (Option StepState)
said_at p no_items = None
said_at p (item d no_items) = option_and_then free_said (as_str d)
said_at p (item d (item e no_items)) =
    option_and_then (λ w. option_and_then (user_said p w) (as_str e)) (as_str d)
said_at p (item d (item e (item g ds))) = None

abbrev pub said_in : PolicyShape → Data → Option (Option StepState)
said_in p d = option_and_then (said_at p) (as_array d)

-- what is said is that a step stands somewhere
abbrev pub state_said : PolicyShape → Data → Option StepState
state_said p d = option_and_then (λ said. said) (said_in p d)

abbrev pub is_said : PolicyShape → Data → Bool
is_said p d = is_some (said_in p d)

-- a case of which no step was said yet
abbrev pub no_case : Case
no_case = record { said = 0; assigned = no_users; finished = no_steps }

-- one more step was said
abbrev pub with_said : Case → StepState → Case
with_said c Free = record c { said = c.said + 1 }
with_said c (Held u) =
    record c { said = c.said + 1; assigned = slice_set c.assigned c.said (Some u) }
with_said c (Finished u) = record {
  said = c.said + 1;
  assigned = slice_set c.assigned c.said (Some u);
  finished = slice_set c.finished c.said true;
}

-- the next step of a case; one whose user is not known is named by its place
unfoldable pub next_said : PolicyShape → Case → Data → Result Case InputFault
next_said p c d = do
  x ← or_fault (state_said p d) (NoUser c.said)
  Ok (with_said c x)

-- the case that an input is for a workflow with these steps, or the first fault: the input is no
-- array of such items, there is not one for each step, or one names no user
unfoldable pub case_of_array : PolicyShape → ℕ → List ℕ → Result Case InputFault
case_of_array p steps input = do
  items ← or_fault (option_and_then as_array (value_of input)) Syntax
  _ ← check (list_all (is_said p) (listed_items items)) Syntax
  _ ← check (length (listed_items items) == steps) Length
  each (next_said p) no_case (listed_items items)

-- an input of no bytes is a case whose steps are all free
abbrev pub case_of_input : PolicyShape → ℕ → List ℕ → Result Case InputFault
case_of_input p steps [] = Ok no_case
case_of_input p steps (b ∷ bs) = case_of_array p steps (b ∷ bs)

-- a state has a user among the first n, if any
abbrev pub IsOfUsers : ℕ → StepState → Type 0
IsOfUsers n Free = Unit {0}
IsOfUsers n (Held u) = u < n
IsOfUsers n (Finished u) = u < n

-- so far: users of the policy have steps that were said, finished steps among them
pub record IsCaseSoFar (users : ℕ) (c : Case) : Type 0 where
  pub within : (s u : ℕ) → user_at c.assigned s ≡ Some u → (s < c.said) × (u < users)
  pub all_assigned : AreAssigned c.finished c.assigned
  pub places : length c.assigned ≡ STEP_LIMIT
  pub flags : length c.finished ≡ STEP_LIMIT

-- a case of a workflow: users of the policy have steps of it, and finished steps are assigned
pub record IsCaseOf (p : Problem) (c : Case) : Type 0 where
  pub within : IsWithin p c.assigned
  pub all_assigned : AreAssigned c.finished c.assigned
