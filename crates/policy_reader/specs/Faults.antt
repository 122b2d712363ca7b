-- Faults of a policy file.
use Rattle.std.specs.Prelude.{ℕ, List, Option, None, Some, Result, if◌then◌else◌}
use Rattle.wf_names.specs.Names.{is_name}
use Rattle.policy_reader.specs.declared.fault.PolicyFault.{PolicyFault}
use Rattle.policy_reader.specs.declared.fault.PolicyKind.{PolicyKind}
use Rattle.policy_reader.specs.declared.fault.PolicyPart.{PolicyPart}
use Rattle.policy_reader.specs.declared.fault.ReadFault.{ReadFault}
use Rattle.policy_reader.specs.declared.fault.ReadFault.TheVariants.{Policy, NoMemory}

-- what a reading gives: a value, or the first fault
abbrev pub Reading : Type 0 → Type 0
Reading A = Result A PolicyFault

-- a fault that is about no text
abbrev pub fault : PolicyKind → PolicyPart → ℕ → PolicyFault
fault kind table index = record { kind = kind; table = table; index = index; name = None }

-- a text where it is of a name's form
abbrev pub as_name : List ℕ → Option (List ℕ)
as_name text = if is_name text then Some text else None

-- a fault that is about a text
abbrev pub fault_about : PolicyKind → PolicyPart → ℕ → List ℕ → PolicyFault
fault_about kind table index text =
    record { kind = kind; table = table; index = index; name = as_name text }

-- the fault of the file where an error is one; want of memory is none
abbrev pub fault_of : ReadFault → Option PolicyFault
fault_of (Policy fault) = Some fault
fault_of NoMemory = None
