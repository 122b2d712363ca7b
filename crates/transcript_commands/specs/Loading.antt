-- Inside: what loading a requests file gives, by what is told of the file.
use Rattle.std.specs.Prelude.{◌≡◌, ℕ, ◌<◌, ◌≤◌, List, length, true, Result, Ok, Err}
use Rattle.wf_names.specs.declared.limits.TheConstants.{REQUESTS_FILE_LIMIT}
use Rattle.wf_outside.specs.Laws.Outside.{Filed, told, missing, untold}
use Rattle.line_reader.specs.declared.jobs.Batch.{Batch}
use Rattle.line_reader.specs.Jobs.{jobs_of_input}
use Rattle.run_record.specs.declared.fault.RunFault.{RunFault}
use Rattle.run_record.specs.declared.fault.RunFault.TheVariants.{Load, NoMemory, FileTooLong}

-- a file gives its jobs
abbrev pub JobsOf : List ℕ → ℕ → Result Batch RunFault → Type 0
JobsOf file lanes (Ok batch) =
    (length file ≤ REQUESTS_FILE_LIMIT) × ((batch.jobs ≡ (jobs_of_input file true lanes).jobs) ×
    (batch.ends ≡ (jobs_of_input file true lanes).ends))
JobsOf file lanes (Err FileTooLong) = REQUESTS_FILE_LIMIT < length file
JobsOf file lanes (Err Load) = length file ≤ REQUESTS_FILE_LIMIT
JobsOf file lanes (Err NoMemory) = length file ≤ REQUESTS_FILE_LIMIT
JobsOf file lanes (Err fault) = ⊥

abbrev pub GivesJobs : Filed → ℕ → Result Batch RunFault → Type 0
GivesJobs untold lanes result = (file : List ℕ) × JobsOf file lanes result
GivesJobs missing lanes result = result ≡ Err Load
GivesJobs (told file) lanes result = JobsOf file lanes result
