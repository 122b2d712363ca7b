-- What is given to a command: its input, which is one line with a limit.
use Rattle.std.specs.Prelude.{◌≡◌, ℕ, ◌<◌, ◌≤◌, List, length, Result, Ok, Err}
use Rattle.run_record.specs.declared.fault.RunFault.{RunFault}
use Rattle.run_record.specs.declared.fault.RunFault.TheVariants.{Read, NoMemory, LineTooLong}

-- the input, or that it is too long, or that reading or memory failed
abbrev pub GivesInput : ℕ → List ℕ → Result (List ℕ) RunFault → Type 0
GivesInput limit input (Ok bytes) = (length input ≤ limit) × (bytes ≡ input)
GivesInput limit input (Err (LineTooLong line)) = (limit < length input) × (line ≡ 0)
GivesInput limit input (Err Read) = Unit {0}
GivesInput limit input (Err NoMemory) = Unit {0}
GivesInput limit input (Err fault) = ⊥

-- the endings of taking the input
abbrev pub IsInputEnding : RunFault → Type 0
IsInputEnding (LineTooLong line) = Unit {0}
IsInputEnding Read = Unit {0}
IsInputEnding NoMemory = Unit {0}
IsInputEnding fault = ⊥
