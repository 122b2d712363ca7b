-- Reading an input batch by batch: what was taken of it, how far it is cut, and where reading
-- pauses.
use Rattle.std.specs.Prelude.{◌≡◌, ℕ, ◌-◌, ◌<◌, ◌≤◌, Bool, true, false, List, [], ◌∷◌, ◌++◌, length}
use Rattle.std.specs.Prelude.{Option, None, Some}
use Rattle.wf_outside.specs.Laws.Outside.{Rose, HasTaken, IsAtEnd}
use Rattle.wf_talk.specs.declared.job.Job.{Job}
use Rattle.line_reader.specs.declared.stop.Stop.{Stop}
use Rattle.line_reader.specs.Jobs.{Cut, cut_all, jobs_from, last_or, UpToAnEnd}
use Rattle.line_reader.specs.Cutter.{after_handing, ends_after, place, last_place}
use Rattle.line_reader.specs.declared.batch_reader.Paused.{Paused}
use Rattle.line_reader.specs.declared.batch_reader.Paused.TheVariants.{Batch, End, Failed, Stopped}
use Rattle.line_reader.specs.declared.batch_reader.Paused.TheVariants.{NoMemory}

-- a reader: the cutting, the bytes that were taken and are not cut yet, and how many are taken at
-- once at most
pub record BatchReaderShape : Type 0 where
  pub cut : Cut
  pub pending : List ℕ
  pub room : ℕ

-- jobs with the ends of their batches, as they were handed over, and how far the cutting was before
pub record Handed : Type 0 where
  pub first : Cut
  pub jobs : List Job
  pub batch_ends : List ℕ

-- what is handed over, with one more batch
abbrev pub handed_more : Handed → List Job → Handed
handed_more h more =
    record {
      first = h.first;
      jobs = h.jobs ++ more;
      batch_ends =
          ends_after h.batch_ends (length h.jobs) more;
    }

-- of what a source gave that had `before` left and has `after` left, all is cut but what is
-- pending, and the rest is not handed over yet
pub record HasRead (before after : Option (List ℕ)) (h : Handed) (r : BatchReaderShape) :
    Type 0 where
  pub bytes : List ℕ
  pub taken : HasTaken before after (bytes ++ r.pending)
  pub cut : after_handing h.jobs h.batch_ends r.cut ≡ cut_all h.first bytes
  pub closed : last_or 0 h.batch_ends ≡ length h.jobs

-- all is handed over up to the end of a batch, which the last byte that was cut has ended; less
-- than one piece was taken ahead
pub record HasPaused (before after : Option (List ℕ)) (room : ℕ) (h : Handed) : Type 0 where
  pub front : List ℕ
  pub last : ℕ
  pub rest : List ℕ
  pub taken : HasTaken before after ((front ++ last ∷ []) ++ rest)
  pub jobs : h.jobs ≡ (cut_all h.first (front ++ last ∷ [])).jobs
  pub ends : h.batch_ends ≡ (cut_all h.first (front ++ last ∷ [])).ends
  pub before_last : length (cut_all h.first front).ends < length h.batch_ends
  pub ahead : length rest < room

-- all that the source gave is handed over, to its end where the input has ended, and no limit was
-- met
pub record HasReadAll (before after : Option (List ℕ)) (ended : Bool) (h : Handed) : Type 0 where
  pub bytes : List ℕ
  pub taken : HasTaken before after bytes
  pub at_end : ended ≡ true → IsAtEnd after
  pub jobs : h.jobs ≡ (jobs_from h.first bytes ended).jobs
  pub ends : h.batch_ends ≡ (jobs_from h.first bytes ended).ends
  pub going : (jobs_from h.first bytes ended).stop ≡ None

-- all is handed over up to where the cutting stopped, which it did at the last byte that was cut;
-- less than one piece was taken past that
pub record StopsCutting (before after : Option (List ℕ)) (room : ℕ) (stop : Stop) (h : Handed) :
    Type 0 where
  pub front : List ℕ
  pub last : ℕ
  pub rest : List ℕ
  pub taken : HasTaken before after ((front ++ last ∷ []) ++ rest)
  pub jobs : h.jobs ≡ (jobs_from h.first (front ++ last ∷ []) false).jobs
  pub ends : h.batch_ends ≡ (jobs_from h.first (front ++ last ∷ []) false).ends
  pub before_last : (cut_all h.first front).stop ≡ None
  pub stopped : (jobs_from h.first (front ++ last ∷ []) false).stop ≡ Some stop
  pub ahead : length rest < room

-- jobs and ends that are those of what was taken, up to an end of a batch
pub record IsReadUp (before after : Option (List ℕ)) (h : Handed) : Type 0 where
  pub bytes : List ℕ
  pub ended : Bool
  pub taken : HasTaken before after bytes
  pub at_end : ended ≡ true → IsAtEnd after
  pub up : UpToAnEnd h.jobs h.batch_ends (jobs_from h.first bytes ended)

-- what was read where reading paused so, at most `room` bytes at once
abbrev pub ReadsBatch : Option (List ℕ) → Option (List ℕ) → ℕ → Handed → Paused → Type 0
ReadsBatch before after room h Batch = HasPaused before after room h
ReadsBatch before after room h End = HasReadAll before after true h
ReadsBatch before after room h Failed = HasReadAll before after false h
ReadsBatch before after room h (Stopped stop) = StopsCutting before after room stop h
ReadsBatch before after room h NoMemory = IsReadUp before after h

-- more can be read: the cutting has not stopped, and all batches that have ended are handed over
pub record CanReadOn (r : BatchReaderShape) : Type 0 where
  pub going : r.cut.stop ≡ None
  pub handed : r.cut.ends ≡ []

-- the count of faults of the source rose where reading paused at one; it stays where reading paused
-- otherwise, but may have risen where memory was refused
abbrev pub CountsPause : Paused → ℕ → ℕ → Type 0
CountsPause Batch before after = after ≡ before
CountsPause End before after = after ≡ before
CountsPause Failed before after = (before ≤ after) × Rose before after
CountsPause (Stopped stop) before after = after ≡ before
CountsPause NoMemory before after = before ≤ after

-- how far reading still has to go at most: less after each batch
abbrev pub left_to_read : BatchReaderShape → ℕ
left_to_read r = last_place - place r.cut

-- a reader can go on, and less is left to read
pub record GoesOnReading (before after : BatchReaderShape) : Type 0 where
  pub ready : CanReadOn after
  pub less : left_to_read after < left_to_read before
