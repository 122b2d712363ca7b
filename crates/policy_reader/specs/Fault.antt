-- The text of a fault.
use Rattle.std.specs.Prelude.{codes, ℕ, List, [], ◌++◌, Option, None, Some, decimal}
use Rattle.policy_reader.specs.declared.fault.PolicyFault.{PolicyFault}
use Rattle.policy_reader.specs.declared.fault.PolicyKind.{PolicyKind}
use Rattle.policy_reader.specs.declared.fault.PolicyKind.TheVariants as kind
use Rattle.policy_reader.specs.declared.fault.PolicyPart.{PolicyPart}
use Rattle.policy_reader.specs.declared.fault.PolicyPart.TheVariants as part

abbrev pub kind_word : PolicyKind → List ℕ
kind_word kind.Syntax = codes "syntax"
kind_word kind.Missing = codes "missing"
kind_word kind.Shape = codes "shape"
kind_word kind.Version = codes "version"
kind_word kind.Name = codes "name"
kind_word kind.Empty = codes "empty"
kind_word kind.TooMany = codes "too_many"
kind_word kind.Twice = codes "twice"
kind_word kind.Unknown = codes "unknown"
kind_word kind.NoAdmin = codes "no_admin"
kind_word kind.Reserved = codes "reserved"
kind_word kind.Chain = codes "chain"
kind_word kind.Extra = codes "extra"
kind_word kind.Cycle = codes "cycle"
kind_word kind.Form = codes "form"
kind_word kind.Range = codes "range"

abbrev pub part_word : PolicyPart → List ℕ
part_word part.File = codes "file"
part_word part.Roles = codes "roles"
part_word part.Users = codes "users"
part_word part.Relations = codes "relations"
part_word part.Flows = codes "flows"

-- a name after a blank, where there is one
abbrev pub name_part : Option (List ℕ) → List ℕ
name_part None = []
name_part (Some name) = codes " " ++ name

-- kind, table and index, with the name where there is one
abbrev pub fault_text : PolicyFault → List ℕ
fault_text fault = kind_word fault.kind ++ codes " " ++ part_word fault.table ++ codes
    " " ++ decimal fault.index ++ name_part fault.name
