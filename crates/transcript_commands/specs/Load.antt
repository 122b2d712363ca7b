-- The files that a session goes on from, in the order in which they are loaded: at each of them a
-- run stops, or goes on.
use Rattle.std.specs.Prelude.{◌≡◌, ℕ, ◌≤◌, true, List, length, Option, None, Some, Result, Ok}
use Rattle.std.specs.Prelude.{Err}
use Rattle.std.proofs.Common.{◌⊎◌}
use Rattle.wf_names.specs.declared.limits.TheConstants.{REQUESTS_FILE_LIMIT}
use Rattle.wf_outside.specs.Laws.Outside.{Filed, told, missing, untold}
use Rattle.policy_book.specs.Laws.Shapes.{PolicyShape}
use Rattle.policy_reader.specs.File.{IsFilePolicy}
use Rattle.line_reader.specs.declared.stop.Stop.{Stop}
use Rattle.line_reader.specs.declared.stop.Stop.TheVariants as stop
use Rattle.line_reader.specs.declared.jobs.CutText.{CutText}
use Rattle.line_reader.specs.Jobs.{Cut, jobs_of_input, next_input}
use Rattle.line_reader.specs.Reader.{lines_of}
use Rattle.run_record.specs.declared.fault.RunFault.{RunFault}
use Rattle.run_record.specs.declared.fault.RunFault.TheVariants.{Load, LineTooLong, TooManyLines}
use Rattle.wf_commands.specs.Load.{BytesOf, PolicyOf}
use Rattle.transcript_commands.specs.Resumed.{first_long, whole_lines}
use Rattle.transcript_commands.specs.declared.start.TheConstants.{TRANSCRIPT_FILE_LIMIT}

-- the names of the files
pub record FileNames : Type 0 where
  pub policy : List ℕ
  pub requests : List ℕ
  pub transcript : List ℕ

-- by what is told of a file: a run stops where it is missing; one of which nothing is told has some
-- content
abbrev pub OverFiled : (RunFault → Type 0) → (List ℕ → Type 0) → Filed → Type 0
OverFiled Stops Over untold = (file : List ℕ) × Over file
OverFiled Stops Over missing = Stops Load
OverFiled Stops Over (told file) = Over file

-- a policy file is too long, or has a fault, or cannot be loaded, or there is no memory, and a run
-- stops so; or it goes on with the policy
abbrev pub GoesOverPolicy : (RunFault → Type 0) → (PolicyShape → Type 0) → List ℕ → Type 0
GoesOverPolicy Stops Goes file =
    ((fault : RunFault) × (PolicyOf file (Err fault) × Stops fault)) ⊎
    ((p : PolicyShape) × (PolicyOf file (Ok p) × (IsFilePolicy p × Goes p)))

-- a file is longer than its limit, or cannot be loaded, or there is no memory, and a run stops so;
-- or it goes on with the text
abbrev pub GoesOverText : ℕ → (RunFault → Type 0) → (List ℕ → Type 0) → List ℕ → Type 0
GoesOverText limit Stops Goes file =
    ((fault : RunFault) × (BytesOf limit file (Err fault) × Stops fault)) ⊎
    ((length file ≤ limit) × Goes file)

-- how a run ends that stops at a limit of lines
abbrev pub ending_at : Stop → RunFault
ending_at (stop.LineTooLong line) = LineTooLong line
ending_at stop.TooManyLines = TooManyLines

-- a run stops where the requests meet a limit
abbrev pub OverStop : (RunFault → Type 0) → Type 0 → Option Stop → Type 0
OverStop Stops Goes None = Goes
OverStop Stops Goes (Some met) = Stops (ending_at met)

-- a run stops at a line of the transcript that is too long
abbrev pub OverLong : (RunFault → Type 0) → Type 0 → Option ℕ → Type 0
OverLong Stops Goes None = Goes
OverLong Stops Goes (Some line) = Stops (LineTooLong line)

-- the requests as they are cut, which meet no limit
abbrev pub OverRequests : ℕ → (RunFault → Type 0) → (Cut → Type 0) → List ℕ → Type 0
OverRequests lanes Stops Goes requests =
    OverStop Stops (Goes (jobs_of_input requests true lanes))
    (jobs_of_input requests true lanes).stop

-- the transcript, of which no whole line is too long
abbrev pub OverTranscript : (RunFault → Type 0) → (List ℕ → Type 0) → List ℕ → Type 0
OverTranscript Stops Goes transcript =
    OverLong Stops (Goes transcript) (first_long 0 (lines_of (whole_lines transcript)))

-- the file of the transcript
abbrev pub OverTranscriptFile : (RunFault → Type 0) → (List ℕ → Type 0) → Filed → Type 0
OverTranscriptFile Stops Goes filed =
    OverFiled Stops (GoesOverText TRANSCRIPT_FILE_LIMIT Stops (OverTranscript Stops Goes)) filed

-- the file of the requests, and behind it that of the transcript
abbrev pub OverBoth : ℕ → (RunFault → Type 0) → (Cut → List ℕ → Type 0) → Filed → Filed → Type 0
OverBoth lanes Stops Goes requests transcript =
    OverFiled Stops (GoesOverText REQUESTS_FILE_LIMIT Stops (OverRequests lanes Stops (λ cut.
    OverTranscriptFile Stops (Goes cut) transcript))) requests

-- the policy file, behind it that of the requests, and behind that one the file of the transcript
abbrev pub OverFiles : (List ℕ → Filed) → FileNames → ℕ → (RunFault → Type 0) →
    (PolicyShape → Cut → List ℕ → Type 0) → Type 0
OverFiles files names lanes Stops Goes =
    OverFiled Stops (GoesOverPolicy Stops (λ p.
    OverBoth lanes Stops (Goes p) (files names.requests) (files names.transcript)))
    (files names.policy)

-- Inside: the requests of a file as they were cut
pub record IsCutOf (requests : List ℕ) (lanes : ℕ) (text : CutText) : Type 0 where
  pub jobs : text.batch.jobs ≡ (jobs_of_input requests true lanes).jobs
  pub ends : text.batch.ends ≡ (jobs_of_input requests true lanes).ends
  pub stop : text.stop ≡ (jobs_of_input requests true lanes).stop
  pub behind : text.lines ≡ (next_input (jobs_of_input requests true lanes)).number

-- Inside: what loading the requests gives
abbrev pub CutOf : List ℕ → ℕ → Result CutText RunFault → Type 0
CutOf file lanes (Ok text) = (length file ≤ REQUESTS_FILE_LIMIT) × IsCutOf file lanes text
CutOf file lanes (Err fault) = BytesOf REQUESTS_FILE_LIMIT file (Err fault)

abbrev pub GivesCut : Filed → ℕ → Result CutText RunFault → Type 0
GivesCut untold lanes result = (file : List ℕ) × CutOf file lanes result
GivesCut missing lanes result = result ≡ Err Load
GivesCut (told file) lanes result = CutOf file lanes result
