-- The jobs of an input, said of its lines.
use Rattle.std.specs.Prelude.{◌≡◌, ℕ, suc, ◌+◌, ◌-◌, ◌==◌, ◌<◌, ◌≤◌, Bool, not, ◌&&◌, List, [], ◌∷◌}
use Rattle.std.specs.Prelude.{◌++◌, length, take, drop, Option, None, Some, is_some, if◌then◌else◌}
use Rattle.wf_names.specs.declared.limits.TheConstants.{LINE_LIMIT, SESSION_LINE_LIMIT}
use Rattle.wf_talk.specs.declared.job.Job.{Job}
use Rattle.line_reader.specs.Reader.{lines_of, has_end, line_length}
use Rattle.line_reader.specs.declared.stop.Stop.{Stop}
use Rattle.line_reader.specs.declared.stop.Stop.TheVariants.{LineTooLong, TooManyLines}
use Rattle.line_reader.specs.Jobs.{Cut, without_cr, job_of, start_from, jobs_from}

-- ---- limits

-- no line has more bytes than a line may have, its LF aside
abbrev pub AreWithin : List (List ℕ) → Type 0
AreWithin [] = Unit {0}
AreWithin (line ∷ lines) = (line_length line ≤ LINE_LIMIT) × AreWithin lines

-- a text whose lines are counted from a number on keeps within the limits
pub record IsWithinLimits (first : ℕ) (bytes : List ℕ) : Type 0 where
  pub short : AreWithin (lines_of bytes)
  pub few : first + length (lines_of bytes) ≤ SESSION_LINE_LIMIT

-- a text meets a limit: it has too many lines, or its last line, which has this number, is too long
abbrev pub MeetsLimit : ℕ → List ℕ → Stop → Type 0
MeetsLimit first bytes TooManyLines = SESSION_LINE_LIMIT < first + length (lines_of bytes)
MeetsLimit first bytes (LineTooLong n) =
    (first + length (lines_of bytes) ≡ n + 1)
    × ((n < SESSION_LINE_LIMIT) × (¬ AreWithin (lines_of bytes)))

-- behind a text within the limits nothing stands, or first the byte with which it meets one
abbrev pub StopsAt : ℕ → List ℕ → List ℕ → Option Stop → Type 0
StopsAt first front rest None = rest ≡ []
StopsAt first front rest (Some stop) =
    (b : ℕ) × ((more : List ℕ) × ((rest ≡ b ∷ more) × MeetsLimit first (front ++ b ∷ []) stop))

-- ---- jobs

-- the text of a line: without its LF and one CR before it; what stands behind the last LF counts
-- where the input has ended, as it is, and is nothing else
abbrev pub text_of : Bool → List ℕ → List ℕ
text_of ended line =
    if has_end line then without_cr (take (line_length line) line) else (if ended then line else [])

-- the job of a line, unless it is empty
abbrev pub job_at : ℕ → ℕ → List ℕ → List Job
job_at lanes n text = if length text == 0 then [] else job_of lanes n text ∷ []

-- the jobs of lines that are counted from a number on: one for each that is not empty, in order
abbrev pub jobs_of_lines : ℕ → Bool → ℕ → List (List ℕ) → List Job
jobs_of_lines lanes ended n [] = []
jobs_of_lines lanes ended n (line ∷ lines) =
    job_at lanes n (text_of ended line) ++ jobs_of_lines lanes ended (n + 1) lines

-- ---- batches

-- the lines of these jobs are the last before a number, and each of those has its job
abbrev pub LeadUpTo : ℕ → List Job → Type 0
LeadUpTo n [] = Unit {0}
LeadUpTo n (job ∷ jobs) = (job.line + suc (length jobs) ≡ n) × LeadUpTo n jobs

-- the lines of these jobs follow one another: no empty one stands between them
abbrev pub FollowOn : List Job → Type 0
FollowOn jobs = (n : ℕ) × LeadUpTo n jobs

-- the jobs between two ends are of lines that follow one another
abbrev pub AreBatches : ℕ → List ℕ → List Job → Type 0
AreBatches before [] jobs = Unit {0}
AreBatches before (end ∷ ends) jobs =
    FollowOn (take (end - before) jobs) × AreBatches end ends (drop (end - before) jobs)

-- ---- an input

-- the jobs of an input: those of its lines up to the first byte that meets a limit; no batch has an
-- empty line in it
pub record AreJobsOfLines (lanes first : ℕ) (bytes : List ℕ) (ended : Bool) (c : Cut) : Type 0 where
  pub front : List ℕ
  pub rest : List ℕ
  pub whole : bytes ≡ front ++ rest
  pub within : IsWithinLimits first front
  pub stop : StopsAt first front rest c.stop
  pub jobs : c.jobs ≡ jobs_of_lines lanes (ended && not (is_some c.stop)) first (lines_of front)
  pub batches : AreBatches 0 c.ends c.jobs

-- so they are in every input
abbrev pub JobsAreOfLines : ℕ → ℕ → Type 0
JobsAreOfLines lanes first =
    (bytes : List ℕ) (ended : Bool) →
    AreJobsOfLines lanes first bytes ended (jobs_from (start_from lanes first) bytes ended)
