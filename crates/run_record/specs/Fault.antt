-- How a run ends: the status of each ending, how and when a run comes to it, and when counts of
-- faults rise. What else is told of endings is told by `how_of` and `when_of` alone.
use Rattle.std.specs.Prelude.{◌≡◌, ℕ, ◌≤◌, Bool, true, false, Result, Ok, Err, List, ◌++◌, codes}
use Rattle.std.specs.Prelude.{decimal}
use Rattle.wf_outside.specs.Laws.Outside.{Rose}
use Rattle.policy_reader.specs.declared.fault.ReadFault.{ReadFault}
use Rattle.policy_reader.specs.declared.fault.ReadFault.TheVariants as reading
use Rattle.run_record.specs.declared.fault.RunFault.{RunFault}
use Rattle.run_record.specs.declared.fault.RunFault.TheVariants.{Nothing, Found, Usage, Policy}
use Rattle.run_record.specs.declared.fault.RunFault.TheVariants.{Read, Write, Load, NoMemory}
use Rattle.run_record.specs.declared.fault.RunFault.TheVariants.{FileTooLong, LineTooLong}
use Rattle.run_record.specs.declared.fault.RunFault.TheVariants.{TooManyLines, BadInput, TooLarge}
use Rattle.run_record.specs.declared.fault.InputFault.TheVariants.{NoFlow}
use Rattle.policy_reader.specs.Fault.{fault_text}

-- what is printed of each ending
abbrev pub fault_said : RunFault → List ℕ
fault_said Nothing = codes "wfserve: done"
fault_said Found = codes "wfserve: found"
fault_said Usage = codes "wfserve: usage"
fault_said (Policy fault) = codes "wfserve: policy " ++ fault_text fault
fault_said Read = codes "wfserve: read fault"
fault_said Write = codes "wfserve: write fault"
fault_said Load = codes "wfserve: load fault"
fault_said NoMemory = codes "wfserve: no memory"
fault_said FileTooLong = codes "wfserve: file too long"
fault_said (LineTooLong line) = codes "wfserve: line " ++ decimal line ++ codes " too long"
fault_said TooManyLines = codes "wfserve: too many lines"
fault_said (BadInput fault) = codes "wfserve: bad input"
fault_said TooLarge = codes "wfserve: too large"

-- the status of each ending
abbrev pub status_of : RunFault → ℕ
status_of Nothing = 0
status_of Found = 1
status_of Usage = 2
status_of (Policy fault) = 3
status_of Read = 4
status_of Write = 5
status_of Load = 6
status_of NoMemory = 7
status_of FileTooLong = 8
status_of (LineTooLong line) = 9
status_of TooManyLines = 10
status_of (BadInput fault) = 11
status_of TooLarge = 12

-- how a run comes to an end
pub data How : Type 0 where
  unasked : How
  answered : How
  misfiled : How
  refused : How
  unloaded : How
  unread : How
  unwritten : How
  lacking : How

-- the words are no command; the command was done; a file is at fault; what is asked or the input
-- is; loading, reading or writing failed; or there was no memory
abbrev pub how_of : RunFault → How
how_of Nothing = answered
how_of Found = answered
how_of Usage = unasked
how_of (Policy fault) = misfiled
how_of Read = unread
how_of Write = unwritten
how_of Load = unloaded
how_of NoMemory = lacking
how_of FileTooLong = misfiled
how_of (LineTooLong line) = refused
how_of TooManyLines = refused
how_of (BadInput fault) = refused
how_of TooLarge = refused

-- when a run comes to its end
pub data When : Type 0 where
  early : When
  midway : When
  overlong : When
  late : When

-- a refusal comes at a limit of the input, or once it is read; but for a workflow that is not there
abbrev pub when_refused : RunFault → When
when_refused (LineTooLong line) = overlong
when_refused TooManyLines = overlong
when_refused (BadInput NoFlow) = early
when_refused fault = late

-- before the input is read; while it is, or whenever memory is asked for; or once it is read
abbrev pub when_so : How → RunFault → When
when_so unasked fault = early
when_so answered fault = late
when_so misfiled fault = early
when_so refused fault = when_refused fault
when_so unloaded fault = early
when_so unread fault = midway
when_so unwritten fault = late
when_so lacking fault = midway

abbrev pub when_of : RunFault → When
when_of fault = when_so (how_of fault) fault

abbrev pub is_early : When → Bool
is_early early = true
is_early when = false

-- a run that ends so has not read the input
abbrev pub is_before_input : RunFault → Bool
is_before_input fault = is_early (when_of fault)

-- how a run ends whose policy was not read
abbrev pub reading_ended : ReadFault → RunFault
reading_ended (reading.Policy fault) = Policy fault
reading_ended reading.NoMemory = NoMemory

-- the fault that ends a run after a step, if the step ends it
abbrev pub fault_in : {A : Type 0} → Result A RunFault → RunFault
fault_in (Ok a) = Nothing
fault_in (Err fault) = fault

-- a count of faults of the shelf, the sink or the source, by how the run ended
abbrev pub LoadsSo : How → ℕ → ℕ → Type 0
LoadsSo unloaded before after = Rose before after
LoadsSo how before after = after ≡ before

abbrev pub WritesSo : How → ℕ → ℕ → Type 0
WritesSo unwritten before after = Rose before after
WritesSo how before after = after ≡ before

abbrev pub ReadsSo : How → ℕ → ℕ → Type 0
ReadsSo unread before after = Rose before after
ReadsSo unwritten before after = before ≤ after
ReadsSo lacking before after = before ≤ after
ReadsSo how before after = after ≡ before

abbrev pub ReadsSoAlone : How → ℕ → ℕ → Type 0
ReadsSoAlone unread before after = Rose before after
ReadsSoAlone how before after = after ≡ before

-- a failed load ends the run so; with every other ending none failed
abbrev pub CountsLoads : RunFault → ℕ → ℕ → Type 0
CountsLoads fault before after = LoadsSo (how_of fault) before after

-- a failed write ends the run so; with every other ending none failed
abbrev pub CountsWrites : RunFault → ℕ → ℕ → Type 0
CountsWrites fault before after = WritesSo (how_of fault) before after

-- a failed read ends the run so, unless writing or memory fail while what was read before it is
-- answered; with every other ending none failed
abbrev pub CountsReads : RunFault → ℕ → ℕ → Type 0
CountsReads fault before after = ReadsSo (how_of fault) before after

-- a failed read ends the run so; with every other ending none failed: where all is read before it
-- is answered
abbrev pub CountsReadsAlone : RunFault → ℕ → ℕ → Type 0
CountsReadsAlone fault before after = ReadsSoAlone (how_of fault) before after
