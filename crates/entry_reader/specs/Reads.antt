-- Inside: code that reads a value.
use Rattle.std.specs.Prelude.{◌≡◌, Option, None, Some, Result, Ok, Err, option_map}
use Rattle.serde_json.specs.Data.{Data}
use Rattle.serde_json.specs.View.{view}
use Rattle.serde_json.specs.declared.value.Value.{Value}
use Rattle.refutation_tree.specs.Tree.{Kids}
use Rattle.refutation_tree.specs.Laws.Views.{branch_onto}
use Rattle.refutation_tree.specs.declared.tree.Branch.{Branch}
use Rattle.basics.specs.declared.fault.Fault.{Fault}
use Rattle.entry_reader.specs.declared.fault.NotText.{NotText}
use Rattle.entry_reader.specs.Fault.{not_text}

-- code returned what a reading gives, seen by view; want of memory says nothing
abbrev pub Reads : {X Y : Type 0} → (X → Y) → Result X (Fault NotText) → Option Y → Type 0
Reads view (Ok x) reading = reading ≡ Some (view x)
Reads view (Err e) reading = e ≡ not_text → reading ≡ None

-- the same of a branch, put before the others
abbrev pub ReadsOnto : Result Branch (Fault NotText) → Option Kids → Option Kids → Type 0
ReadsOnto (Ok b) rest reading = reading ≡ option_map (branch_onto b) rest
ReadsOnto (Err e) rest reading = e ≡ not_text → reading ≡ None

-- each call at a value returns what a reading gives
abbrev pub ReadsBy : {X : Type 0} → (Value → Option X → Type 0) → (Data → Option X) → Type 0
ReadsBy {X} returns reading = (v : Value) (o : Option X) → returns v o → o ≡ reading (view v)
