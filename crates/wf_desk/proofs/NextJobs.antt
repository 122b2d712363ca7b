-- The job that stands at a lane's place.
use Rattle.std.proofs.Common.{◌≡◌, ℕ, zero, suc, ◌<◌, ◌≤◌, List, [], ◌∷◌, length, slice_get, slice_index_or, None, Some, refl, ◌∙◌, arith}
use Rattle.std.proofs.lemmas.Option.{slice_get_past}
use Rattle.wf_talk.specs.declared.job.Job.{Job}
use Rattle.wf_desk.specs.Desks.{DeskShape, next_job}
use Rattle.wf_desk.specs.Keeping.{HasNext, IsDesk}
use Rattle.wf_desk.proofs.DeskLaws.{stands_here}
use Rattle.wf_desk.proofs.DocketLaws.{next_at, next_lane}

-- a lane's next job is the one at its place
pub next_of : (d : DeskShape) (places : List ℕ) (lane : ℕ) → IsDesk d places → lane < d.lanes →
    next_job d lane ≡ slice_get d.jobs (slice_index_or places lane 0)
next_of d places lane is known = grind (arith, next_at)

-- a job is the next one of a lane, which is its own
pub record StandsNext (d : DeskShape) (lane : ℕ) (j : Job) : Type 0 where
  pub own : j.lane ≡ lane
  pub known : j.lane < d.lanes
  pub next : next_job d j.lane ≡ Some j
  pub here : next_job d lane ≡ Some j

pub stands_next : (d : DeskShape) (places : List ℕ) (lane : ℕ) (js : List Job) (j : Job) → IsDesk d places → lane < d.lanes → js ≡ d.jobs →
    slice_get js (slice_index_or places lane 0) ≡ Some j → StandsNext d lane j
stands_next d places lane js j is known same stands = grind (arith, next_of, next_lane)

-- where a lane has a job left, its place is one of the jobs
pub place_within : (d : DeskShape) (places : List ℕ) (lane : ℕ) (js : List Job) → IsDesk d places → lane < d.lanes → js ≡ d.jobs → HasNext d lane →
    slice_index_or places lane 0 < length js
place_within d places lane js is known same next = grind (arith, stands_here)

-- two next jobs of a lane are one
pub one_next : (d : DeskShape) (lane : ℕ) (j k : Job) → next_job d lane ≡ Some j → next_job d lane ≡ Some k → j ≡ k
one_next d lane j k first second = cc

get_some : {A : Type 0} (xs : List A) (n : ℕ) → n < length xs → (x : A) × (slice_get xs n ≡ Some x)
get_some [] n within = absurd (omega (arith, within))
get_some (x ∷ xs) zero within = (x, refl)
get_some (x ∷ xs) (suc n) within = get_some xs n (omega (arith, within))

-- where its place is behind the jobs, a lane has none left
pub none_next : (d : DeskShape) (places : List ℕ) (lane : ℕ) → IsDesk d places → lane < d.lanes → length d.jobs ≤ slice_index_or places lane 0 →
    next_job d lane ≡ None
none_next d places lane is known past = next_of d places lane is known ∙ slice_get_past d.jobs (slice_index_or places lane 0) past

pub some_next : (d : DeskShape) (places : List ℕ) (lane : ℕ) → IsDesk d places → lane < d.lanes → slice_index_or places lane 0 < length d.jobs →
    HasNext d lane
some_next d places lane is known within =
    let some = get_some d.jobs (slice_index_or places lane 0) within in
    (some.0, next_of d places lane is known ∙ some.1)
