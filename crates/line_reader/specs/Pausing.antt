-- Inside: how reading goes on, step by step.
use Rattle.std.specs.Prelude.{◌≡◌, ℕ, ◌<◌, Bool, true, false, List, [], ◌∷◌, ◌++◌}
use Rattle.std.specs.Prelude.{length, Option, None, Some}
use Rattle.std.proofs.Common.{◌⊎◌}
use Rattle.wf_outside.specs.Laws.Outside.{HasTaken, IsAtEnd}
use Rattle.line_reader.specs.Pieces.{steps_left}
use Rattle.line_reader.specs.Jobs.{Cut, cut_all, flush, end_batch, last_or}
use Rattle.line_reader.specs.Cutter.{after_handing, IsEnded}
use Rattle.line_reader.specs.declared.batch_reader.Paused.{Paused}
use Rattle.line_reader.specs.declared.batch_reader.Paused.TheVariants.{Batch, End, Failed, Stopped}
use Rattle.line_reader.specs.declared.batch_reader.Paused.TheVariants.{NoMemory}
use Rattle.line_reader.specs.BatchReader.{BatchReaderShape, Handed, HasRead, CanReadOn, CountsPause}
use Rattle.line_reader.specs.BatchReader.{left_to_read}

-- some bytes were cut, and before the last of them no batch had ended and the cutting had not
-- stopped
pub record HasCut (before after : Option (List ℕ)) (h : Handed) (r : BatchReaderShape) :
    Type 0 where
  pub front : List ℕ
  pub last : ℕ
  pub taken : HasTaken before after ((front ++ last ∷ []) ++ r.pending)
  pub cut : after_handing h.jobs h.batch_ends r.cut ≡ cut_all h.first (front ++ last ∷ [])
  pub closed : last_or 0 h.batch_ends ≡ length h.jobs
  pub none : (cut_all h.first front).ends ≡ h.batch_ends
  pub going : (cut_all h.first front).stop ≡ None

-- what was read where reading paused so, before the jobs are handed over
abbrev pub PausesBy : Option (List ℕ) → Option (List ℕ) → Handed → BatchReaderShape → Paused →
    Type 0
PausesBy before after h r Batch = HasCut before after h r
PausesBy before after h r End = HasRead before after h r
PausesBy before after h r Failed = HasRead before after h r
PausesBy before after h r (Stopped stop) = HasCut before after h r
PausesBy before after h r NoMemory = HasRead before after h r

-- what was read by one step, after which reading pauses or goes on
abbrev pub AdvancesTo : Option (List ℕ) → Option (List ℕ) → Handed → BatchReaderShape →
    Option Paused → Type 0
AdvancesTo before after h r None = HasRead before after h r
AdvancesTo before after h r (Some paused) = PausesBy before after h r paused

-- where reading pauses so
abbrev pub PausesAs : BatchReaderShape → Option (List ℕ) → Paused → Type 0
PausesAs r left Batch = (r.cut.stop ≡ None) × IsEnded r.cut × (0 < length r.cut.jobs) ×
    (length r.pending < r.room)
PausesAs r left End = CanReadOn r × (r.pending ≡ []) × IsAtEnd left
PausesAs r left Failed = CanReadOn r × (r.pending ≡ [])
PausesAs r left (Stopped stop) = (r.cut.stop ≡ Some stop) × (r.cut.ends ≡ []) ×
    (length r.pending < r.room)
PausesAs r left NoMemory = Unit {0}

-- how much reading still has to do at most: cut bytes, piece by piece
abbrev pub reading_steps : BatchReaderShape → ℕ
reading_steps r = steps_left (left_to_read r) r.pending

-- one step goes on, or pauses
abbrev pub StepsAs : BatchReaderShape → BatchReaderShape → Option (List ℕ) → Option Paused → Type 0
StepsAs r s left None = CanReadOn s × (reading_steps s < reading_steps r)
StepsAs r s left (Some paused) = PausesAs s left paused

-- the input is ended, unless memory was refused
abbrev pub FinishesAs : Cut → Cut → Bool → Paused → Paused → Type 0
FinishesAs c d ended paused result =
    ((result ≡ paused) × (d ≡ end_batch (flush ended c)) × IsEnded d) ⊎
    ((result ≡ NoMemory) × (d ≡ c))

-- the open batch is ended where reading paused so
abbrev pub ClosesAs : Cut → Cut → Paused → Paused → Type 0
ClosesAs c d Batch result = (result ≡ Batch) × (d ≡ c)
ClosesAs c d End result = FinishesAs c d true End result
ClosesAs c d Failed result = FinishesAs c d false Failed result
ClosesAs c d (Stopped stop) result = FinishesAs c d false (Stopped stop) result
ClosesAs c d NoMemory result = (result ≡ NoMemory) × (d ≡ c)

-- the count of faults of the source over one step
abbrev pub CountsPauseStep : Option Paused → ℕ → ℕ → Type 0
CountsPauseStep None before after = after ≡ before
CountsPauseStep (Some paused) before after = CountsPause paused before after
