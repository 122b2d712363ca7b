-- What loading a file gives, and the policy in it, by what is told of the file.
use Rattle.std.specs.Prelude.{◌≡◌, ℕ, ◌<◌, ◌≤◌, List, length, Result, Ok, Err}
use Rattle.wf_outside.specs.Laws.Outside.{Filed, told, missing, untold}
use Rattle.wf_names.specs.declared.limits.TheConstants.{POLICY_FILE_LIMIT}
use Rattle.policy_book.specs.Laws.Shapes.{PolicyShape}
use Rattle.policy_reader.specs.Files.{policy_of_file}
use Rattle.run_record.specs.declared.fault.RunFault.{RunFault}
use Rattle.run_record.specs.declared.fault.RunFault.TheVariants.{Policy, Load, NoMemory}
use Rattle.run_record.specs.declared.fault.RunFault.TheVariants.{FileTooLong}
use Rattle.run_record.specs.Fault.{How, misfiled, unloaded, lacking, how_of}

-- a file gives its bytes, or is longer than the limit; one that is not may fail to load, or lack
-- memory
abbrev pub BytesOf : ℕ → List ℕ → Result (List ℕ) RunFault → Type 0
BytesOf limit file (Ok bytes) = (length file ≤ limit) × (bytes ≡ file)
BytesOf limit file (Err FileTooLong) = limit < length file
BytesOf limit file (Err Load) = length file ≤ limit
BytesOf limit file (Err NoMemory) = length file ≤ limit
BytesOf limit file (Err fault) = ⊥

-- the same by what is told; a missing file is a load fault, and one of which nothing is told has
-- some content
abbrev pub GivesBytes : ℕ → Filed → Result (List ℕ) RunFault → Type 0
GivesBytes limit untold result = (file : List ℕ) × BytesOf limit file result
GivesBytes limit missing result = result ≡ Err Load
GivesBytes limit (told file) result = BytesOf limit file result

-- a told file that is longer than the limit ends a run so, and in no other way
abbrev pub EndsTooLong : ℕ → Filed → RunFault → Type 0
EndsTooLong limit untold fault = Unit {0}
EndsTooLong limit missing fault = Unit {0}
EndsTooLong limit (told file) fault = limit < length file → fault ≡ FileTooLong

-- a file gives its policy, or is too long, or has its first fault; one that is not too long may
-- fail to load, or lack memory
abbrev pub PolicyOf : List ℕ → Result PolicyShape RunFault → Type 0
PolicyOf file (Ok p) = (length file ≤ POLICY_FILE_LIMIT) × (policy_of_file file ≡ Ok p)
PolicyOf file (Err FileTooLong) = POLICY_FILE_LIMIT < length file
PolicyOf file (Err (Policy fault)) =
    (length file ≤ POLICY_FILE_LIMIT) × (policy_of_file file ≡ Err fault)
PolicyOf file (Err Load) = length file ≤ POLICY_FILE_LIMIT
PolicyOf file (Err NoMemory) = length file ≤ POLICY_FILE_LIMIT
PolicyOf file (Err fault) = ⊥

-- the same by what is told; a missing file is a load fault, and one of which nothing is told has
-- some content
abbrev pub GivesPolicy : Filed → Result PolicyShape RunFault → Type 0
GivesPolicy untold result = (file : List ℕ) × PolicyOf file result
GivesPolicy missing result = result ≡ Err Load
GivesPolicy (told file) result = PolicyOf file result

-- the endings of loading a file, or the policy in it
abbrev pub EndsLoading : How → Type 0
EndsLoading misfiled = Unit {0}
EndsLoading unloaded = Unit {0}
EndsLoading lacking = Unit {0}
EndsLoading how = ⊥

abbrev pub IsLoadEnding : RunFault → Type 0
IsLoadEnding fault = EndsLoading (how_of fault)
