-- The cutter: it keeps of a cutting what is not handed over yet, and cuts on from there.
use Rattle.std.specs.Prelude.{◌≡◌, ◌≢◌, ℕ, ◌+◌, ◌*◌, ◌<◌, ◌≤◌, nat_lt, if◌then◌else◌, List, []}
use Rattle.std.specs.Prelude.{◌∷◌, ◌++◌, length, map, None, Some}
use Rattle.wf_names.specs.declared.limits.TheConstants.{LINE_LIMIT, SESSION_LINE_LIMIT}
use Rattle.wf_names.specs.declared.limits.TheConstants.{BATCH_LINE_LIMIT}
use Rattle.wf_talk.specs.declared.job.Job.{Job}
use Rattle.line_reader.specs.declared.stop.Stop.{Stop}
use Rattle.line_reader.specs.Jobs.{Cut, last_or, cut_all}

-- what every cutter meets
pub record IsSound (c : Cut) : Type 0 where
  pub lines : c.number ≤ SESSION_LINE_LIMIT
  pub short : length c.line ≤ LINE_LIMIT
  pub begins : c.from ≤ length c.jobs
  pub batch : length c.jobs < c.from + BATCH_LINE_LIMIT
  pub last : c.from ≡ last_or 0 c.ends

-- what the cutter keeps when all that it has is handed over
abbrev pub emptied : Cut → Cut
emptied c = record c { jobs = []; from = 0; ends = [] }

-- the ends of batches with the end of one more, if it has a job; `before` jobs stand before it
abbrev pub ends_after : List ℕ → ℕ → List Job → List ℕ
ends_after batch_ends before jobs =
    if nat_lt 0 (length jobs) then batch_ends ++ (before + length jobs) ∷ [] else batch_ends

-- the whole cutting, where these jobs and ends of batches are handed over
abbrev pub after_handing : List Job → List ℕ → Cut → Cut
after_handing jobs batch_ends c =
    record c {
      jobs = jobs ++ c.jobs;
      from = length jobs + c.from;
      ends = batch_ends ++ map (λ n. length jobs + n) c.ends;
    }

-- how far the cutting is: each byte that does not stop it raises this
abbrev pub place : Cut → ℕ
place c = c.number * (LINE_LIMIT + 1) + length c.line

-- the furthest place of all
abbrev pub last_place : ℕ
last_place = SESSION_LINE_LIMIT * (LINE_LIMIT + 1) + LINE_LIMIT

-- no batch is open: all jobs are of one that has ended
pub record IsEnded (c : Cut) : Type 0 where
  pub closed : c.from ≡ length c.jobs
  pub ends : c.ends ≡ ends_after [] 0 c.jobs

-- more can be cut: the cutting has not stopped, and all batches that have ended are handed over
pub record CanCut (c : Cut) : Type 0 where
  pub sound : IsSound c
  pub going : c.stop ≡ None
  pub handed : c.ends ≡ []

-- how bytes leave the cutting, which could go on before them: a batch that has ended is all that is
-- there, none has ended where the cutting stopped, and the place is further where it did not
pub record CutsOn (c d : Cut) : Type 0 where
  pub ended : d.ends ≢ [] → IsEnded d
  pub stopped : (s : Stop) → d.stop ≡ Some s → d.ends ≡ []
  pub further : d.stop ≡ None → place c < place d

-- these bytes were cut, and before the last of them no batch ended and the cutting did not stop
pub record Cuts (c d : Cut) (bytes : List ℕ) : Type 0 where
  pub cut : d ≡ cut_all c bytes
  pub front : List ℕ
  pub last : ℕ
  pub whole : bytes ≡ front ++ last ∷ []
  pub none : (cut_all c front).ends ≡ c.ends
  pub going : (cut_all c front).stop ≡ None
