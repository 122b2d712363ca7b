-- The input of `plan`: one JSON array of the users' names in the order of the steps.
use Rattle.std.specs.Prelude.{◌≡◌, ℕ, ◌<◌, ◌==◌, Bool, List, [], ◌∷◌, ◌++◌, length, Option, None}
use Rattle.std.specs.Prelude.{Some, if◌then◌else◌, is_some, option_and_then, Result, Ok}
use Rattle.std.specs.List.{list_all}
use Rattle.serde_json.specs.Data.{Data, Items, no_items, item}
use Rattle.serde_json.specs.Find.{as_str, as_array}
use Rattle.basics.specs.Laws.Reading.{◌>>=◌, or_fault, check, each}
use Rattle.constraint_forms.specs.Assign.{planned}
use Rattle.wf_names.specs.Names.{is_name}
use Rattle.wf_names.specs.Table.{place_of}
use Rattle.policy_book.specs.Laws.Shapes.{PolicyShape}
use Rattle.wire_json.specs.Values.{value_of}
use Rattle.run_record.specs.declared.fault.InputFault.{InputFault}
use Rattle.run_record.specs.declared.fault.InputFault.TheVariants.{NoFlow, Syntax, Length, NoUser}
use Rattle.wf_commands.specs.declared.input.InputError.{InputError}
use Rattle.wf_commands.specs.declared.input.InputError.TheVariants.{Fault, NoMemory}

-- the items of an array, in order
abbrev pub listed_items : Items → List Data
listed_items no_items = []
listed_items (item d ds) = d ∷ listed_items ds

-- the value is a text
abbrev pub is_text : Data → Bool
is_text d = is_some (as_str d)

-- the number of a name among others; a text that is no name has none
abbrev pub number_named : List (List ℕ) → List ℕ → Option ℕ
number_named names text = if is_name text then place_of names text else None

-- the next user of a plan; one who is not known is named by their place
unfoldable pub next_in_plan : PolicyShape → List ℕ → Data → Result (List ℕ) InputFault
next_in_plan p so_far d = do
  u ← or_fault (option_and_then (number_named p.roster.users) (as_str d)) (NoUser (length so_far))
  Ok (so_far ++ u ∷ [])

-- the plan that an input is for a workflow with these steps, or the first fault: the input is no
-- array of texts, there is not one text for each step, or a text names no user
unfoldable pub plan_of_input : PolicyShape → ℕ → List ℕ → Result (List ℕ) InputFault
plan_of_input p steps input = do
  items ← or_fault (option_and_then as_array (value_of input)) Syntax
  _ ← check (list_all is_text (listed_items items)) Syntax
  _ ← check (length (listed_items items) == steps) Length
  each (next_in_plan p) [] (listed_items items)

-- each user of a plan is among the first n
abbrev pub AreAmong : ℕ → List ℕ → Type 0
AreAmong n users = (s : ℕ) → s < length users → planned users s < n

-- a plan has one more user, among the first n
pub record HasOneMoreUser (n : ℕ) (before after : List ℕ) : Type 0 where
  pub user : ℕ
  pub known : user < n
  pub pushed : after ≡ before ++ user ∷ []

-- the fault of the input where an error is one; want of memory is none
abbrev pub input_fault : InputError → Option InputFault
input_fault (Fault fault) = Some fault
input_fault NoMemory = None

-- a fault of the input itself, or want of memory
abbrev pub IsOfInput : InputError → Type 0
IsOfInput (Fault NoFlow) = ⊥
IsOfInput error = Unit {0}
