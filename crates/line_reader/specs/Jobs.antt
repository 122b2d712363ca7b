-- The jobs of the input: the bytes are cut into lines, lines into jobs and batches.
use Rattle.std.specs.Prelude.{◌≡◌, ℕ, ◌+◌, ◌-◌, ◌==◌, nat_lt, nat_le, Bool, List, [], ◌∷◌, ◌++◌}
use Rattle.std.specs.Prelude.{length, take, slice_index_or, Option, None, Some, is_some}
use Rattle.std.specs.Prelude.{if◌then◌else◌}
use Rattle.wf_names.specs.declared.limits.TheConstants.{LINE_LIMIT, SESSION_LINE_LIMIT}
use Rattle.wf_names.specs.declared.limits.TheConstants.{BATCH_LINE_LIMIT}
use Rattle.wf_talk.specs.declared.job.Job.{Job}
use Rattle.wire_json.specs.Requests.{asked_of}
use Rattle.line_reader.specs.declared.stop.Stop.{Stop}
use Rattle.line_reader.specs.declared.stop.Stop.TheVariants.{LineTooLong, TooManyLines}

-- how far an input is cut: the open line with its number, all jobs with how many stand before the
-- open batch, the ends of the batches that have a job, and where the cutting stopped, if it has
pub record Cut : Type 0 where
  pub lanes : ℕ
  pub line : List ℕ
  pub number : ℕ
  pub jobs : List Job
  pub from : ℕ
  pub ends : List ℕ
  pub stop : Option Stop

-- before the first byte, where lines are counted from a number on
abbrev pub start_from : ℕ → ℕ → Cut
start_from lanes number = record {
  lanes = lanes;
  line = [];
  number = number;
  jobs = [];
  from =
      0;
  ends = [];
  stop = None;
}

-- and where nothing was read before
abbrev pub start : ℕ → Cut
start lanes = start_from lanes 0

-- a line without one CR at its end
unfoldable pub without_cr : List ℕ → List ℕ
without_cr line =
    if slice_index_or line (length line - 1) 0 == 13 then take (length line - 1) line else line

-- the job of a line with its number: what it asks, and of which of the lanes
abbrev pub job_of : ℕ → ℕ → List ℕ → Job
job_of lanes number line =
    record { lane = (asked_of lanes line).lane; line = number; ask = (asked_of lanes line).ask }

-- the open batch ends, if it has a job
unfoldable pub end_batch : Cut → Cut
end_batch c =
    if nat_lt c.from (length c.jobs) then record c
    { from = length c.jobs; ends = c.ends ++ length c.jobs ∷ [] } else c

-- a batch ends at its greatest number of lines; each of its lines is a job
unfoldable pub end_full_batch : Cut → Cut
end_full_batch c = if nat_le (c.from + BATCH_LINE_LIMIT) (length c.jobs) then end_batch c else c

-- the line has ended, without a job
abbrev pub next_line : Cut → Cut
next_line c = record c { line = []; number = c.number + 1 }

-- the line has ended, with a job
abbrev pub with_job : Cut → Job → Cut
with_job c job = record c { line = []; number = c.number + 1; jobs = c.jobs ++ job ∷ [] }

-- at a line's end: an empty line is no job and ends its batch
unfoldable pub end_line : Cut → Cut
end_line c =
    if length (without_cr c.line) == 0 then end_batch (next_line c) else
    end_full_batch (with_job c (job_of c.lanes c.number (without_cr c.line)))

-- the next byte: any byte stops the cutting past the greatest number of lines, and past a line's
-- greatest length any byte but LF
unfoldable pub step : Cut → ℕ → Cut
step c b =
    if is_some c.stop then c else
    if nat_lt c.number SESSION_LINE_LIMIT then
    (if b == 10 then end_line c else
    if nat_lt (length c.line) LINE_LIMIT then record c { line = c.line ++ b ∷ [] } else
    record c { stop = Some (LineTooLong c.number) })
    else record c { stop = Some TooManyLines }

-- one byte after the other
abbrev pub cut_all : Cut → List ℕ → Cut
cut_all c [] = c
cut_all c (b ∷ bs) = cut_all (step c b) bs

-- what follows the last LF is a line where the input has ended, unless it is empty; its CR is kept
unfoldable pub flush : Bool → Cut → Cut
flush ended c =
    if ended then
    (if is_some c.stop then c else
    if length c.line == 0 then c else
    record c { jobs = c.jobs ++ job_of c.lanes c.number c.line ∷ [] })
    else c

-- the jobs of bytes that were read, with the ends of their batches and where the cutting stopped,
-- behind what was cut before
unfoldable pub jobs_from : Cut → List ℕ → Bool → Cut
jobs_from c bytes ended = end_batch (flush ended (cut_all c bytes))

-- and where nothing was
abbrev pub jobs_of_input : List ℕ → Bool → ℕ → Cut
jobs_of_input bytes ended lanes = jobs_from (start lanes) bytes ended

-- where the cutting goes on with another input: its lines are counted on from those of the one that
-- has ended
abbrev pub next_input : Cut → Cut
next_input c = record c { line = []; number = c.number + (if length c.line == 0 then 0 else 1) }

-- the last of a list, if it has one
abbrev pub last_or : ℕ → List ℕ → ℕ
last_or d [] = d
last_or d (x ∷ xs) = last_or x xs

-- jobs and ends up to an end of a batch, of all there are
pub record UpToAnEnd (jobs : List Job) (batch_ends : List ℕ) (all : Cut) : Type 0 where
  pub ends : (k : ℕ) × (batch_ends ≡ take k all.ends)
  pub within : jobs ≡ take (last_or 0 batch_ends) all.jobs
