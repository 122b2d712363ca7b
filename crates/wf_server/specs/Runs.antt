-- A run of the program: what its words make it do.
use Rattle.std.specs.Prelude.{◌≡◌, ℕ, Bool, true, false, List, map, nat_lt, Option, None, Some}
use Rattle.std.specs.Prelude.{String, string_bytes}
use Rattle.std.proofs.Common.{Global}
use Rattle.std.proofs.Common.{◌⊎◌}
use Rattle.run_record.specs.declared.fault.RunFault.{RunFault}
use Rattle.run_record.specs.declared.fault.RunFault.TheVariants.{NoMemory, Usage}
use Rattle.run_record.specs.declared.report.Report.{Report}
use Rattle.run_record.specs.Fault.{status_of}
use Rattle.run_record.specs.Laws.Run.{Run, IsOrderly, IsUntouched}
use Rattle.wf_commands.specs.Plan.{Plans}
use Rattle.wf_commands.specs.Show.{Shows}
use Rattle.wf_commands.specs.Solve.{Solves}
use Rattle.wf_commands.specs.Resilience.{ChecksResilience}
use Rattle.transcript_commands.specs.Audit.{AuditsRun}
use Rattle.wf_commands.specs.Model.{ReadsModelFile, WritesClauses}
use Rattle.trial_command.specs.Run.{RunsTrial}
use Rattle.command_words.specs.Laws.Words.{Command, plan, show, solve, resilience, cnf, serve}
use Rattle.command_words.specs.Laws.Words.{audit, command_of, resume, trial}
use Rattle.wf_desk.specs.Desks.{DeskShape}
use Rattle.wf_server.specs.Ways.{ServesOnce}
use Rattle.wf_server.specs.Laws.Serving.{ServesRun}
use Rattle.wf_server.specs.Laws.Resuming.{ResumesRun}

-- a run does what its command is, where a request may be answered again or not; where the words are
-- none it ends before anything
abbrev pub Does : Bool → Option Command → Run → Type 0
Does repeats None r = IsOrderly r × (r.fault ≡ Usage)
Does repeats (Some (plan policy flow)) r = Plans policy flow r
Does repeats (Some (show policy)) r = Shows policy r
Does repeats (Some (solve policy)) r = Solves policy r
Does repeats (Some (resilience policy flow absences)) r = ChecksResilience policy flow absences r
Does repeats (Some (cnf policy flow None)) r = WritesClauses policy flow r
Does repeats (Some (cnf policy flow (Some model))) r = ReadsModelFile policy flow model r
Does repeats (Some (serve policy options)) r = ServesRun policy options r
Does repeats (Some (audit policy requests options)) r =
    AuditsRun policy requests options.lanes options.rounds r
Does repeats (Some (resume policy requests transcript options)) r =
    ResumesRun (record { policy = policy; requests = requests; transcript = transcript })
    options repeats r
Does repeats (Some (trial seed)) r = IsOrderly r × RunsTrial seed (record {
  output = r.before.output;
  output_after = r.after.output;
  faults = r.before.write_faults;
  faults_after = r.after.write_faults;
  told = r.told;
  fault = r.fault;
})

-- the same whether a request may be answered again or not
abbrev pub DoesAlone : Command → Run → Type 0
DoesAlone command r = (repeats : Bool) → Does repeats (Some command) r

-- after how many lost rounds a request is answered again
abbrev pub rounds_of : Command → ℕ
rounds_of (serve policy options) = options.rounds
rounds_of (resume policy requests transcript options) = options.rounds
rounds_of command = 0

-- no request is answered again: by the way of serving, or as no rounds are lost
abbrev pub IsServedOnce : (DeskShape → DeskShape → Type 0) → Command → Type 0
IsServedOnce Leaves command = ServesOnce Leaves ⊎ (rounds_of command ≡ 0)

-- the same in a way of serving, where a request may be answered again unless it serves each once
abbrev pub DoesBy : (DeskShape → DeskShape → Type 0) → Command → Run → Type 0
DoesBy Leaves command r = (repeats : Bool) → (repeats ≡ false → IsServedOnce Leaves command) →
    Does repeats (Some command) r

-- whether each lane of the session runs on a thread: where there are two or more
abbrev pub is_on_threads : Command → Bool
is_on_threads (serve policy options) = nat_lt 1 options.lanes
is_on_threads (resume policy requests transcript options) = nat_lt 1 options.lanes
is_on_threads command = false

-- there was no memory to read the words, and the run ended before anything
abbrev pub LacksWords : Run → Type 0
LacksWords r = IsOrderly r × (IsUntouched r × (r.fault ≡ NoMemory))

-- the command that the words are, if they are one
abbrev pub command_meant : List (String Global) → Option Command
command_meant words = command_of (map string_bytes words)

-- a run has ended with the status of its ending, which is that the words are no command only where
-- they are none
pub record HasEndedBy (command : Option Command) (r : Report) : Type 0 where
  pub status : r.status ≡ status_of r.fault
  pub usage : r.fault ≡ Usage → command ≡ None

-- a run does what its words ask, unless there was no memory to read them
abbrev pub HasRun : Bool → Option Command → Run → Type 0
HasRun repeats command r = LacksWords r ⊎ Does repeats command r

-- whether the entries of an earlier session are taken up for these words
abbrev pub takes_up : Option Command → Bool
takes_up (Some (resume policy requests transcript options)) = true
takes_up command = false

-- whether a command is about a policy alone, and about no session
abbrev pub is_of_policy : Command → Bool
is_of_policy (serve policy options) = false
is_of_policy (audit policy requests options) = false
is_of_policy (resume policy requests transcript options) = false
is_of_policy (trial seed) = false
is_of_policy command = true

-- how a run may end at its words
abbrev pub IsWordsEnding : RunFault → Type 0
IsWordsEnding Usage = Unit {0}
IsWordsEnding NoMemory = Unit {0}
IsWordsEnding fault = ⊥
