-- One list of jobs: those of the batches before, and behind them those of the batch.
use Rattle.std.proofs.Common.{◌≡◌, ℕ, List, [], ◌∷◌, ◌++◌, length, take, drop, arith}
use Rattle.std.proofs.lemmas.List.{drop_all, take_all, take-append-drop}
use Rattle.wf_talk.specs.declared.job.Job.{Job}
use Rattle.wf_desk.specs.Desks.{DeskShape, jobs_told}
use Rattle.wf_desk.specs.Keeping.{IsDesk, IsDeskAt}

-- a desk whose jobs are parted at a place of a list
abbrev pub parted : DeskShape → List Job → ℕ → DeskShape
parted d jobs first = record d { earlier = take first jobs; jobs = drop first jobs }

-- with these jobs before those that are to come
nil_right : (xs ys : List Job) → xs ++ ys ≡ [] → ys ≡ []
nil_right [] ys none = none
nil_right (x ∷ xs) ys none = absurd (cc)

pub parted_behind : (d : DeskShape) (places : List ℕ) (jobs : List Job) (first : ℕ) → first ≡ length jobs → jobs_told d ≡ [] → IsDesk d places →
    IsDeskAt (parted d jobs first) places jobs first
parted_behind d places jobs first size none desk = grind (arith, drop_all, nil_right)

behind_is : (d : DeskShape) (jobs : List Job) (first : ℕ) → first ≡ length jobs → jobs_told d ≡ [] → parted d jobs first ≡ record d { earlier = jobs }
behind_is d jobs first size none = grind (arith, take_all, drop_all, nil_right)

pub behind_at : (d e : DeskShape) (jobs : List Job) (first : ℕ) → first ≡ length jobs → d ≡ e → jobs_told e ≡ [] →
    parted d jobs first ≡ record e { earlier = jobs }
behind_at d e jobs first size is none = grind (arith, behind_is)

-- all jobs that were given
pub all_told : (v d : DeskShape) (jobs : List Job) (first : ℕ) → v ≡ d → v.earlier ≡ take first jobs → v.jobs ≡ drop first jobs → jobs ≡ jobs_told d
all_told v d jobs first is front rest = grind (arith, take-append-drop)
