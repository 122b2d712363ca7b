-- A desk that goes on from entries that stand already.
use Rattle.std.proofs.Common.{◌≡◌, ℕ, zero, suc, ◌+◌, ◌<◌, ◌≤◌, inl, inr, false, nat_eq, nat_lt, List, [], ◌∷◌, ◌++◌, length, take, drop, get_or, map}
use Rattle.std.proofs.Common.{slice_get, slice_index_or, slice_set, None, Some, refl, sym, ap, subst, ◌∙◌, arith}
use Rattle.std.proofs.lemmas.Grind.{common_steps}
use Rattle.std.proofs.lemmas.List.{drop_more, get_or-set_other, get_or-set_same, map-append, take-append-drop, take_more}
use Rattle.std.proofs.lemmas.Option.{get_or_from_slice_get, slice_get_within}
use Rattle.basics.proofs.Booleans.{bool_cases, eq_back}
use Rattle.wf_names.specs.declared.limits.TheConstants.{LANE_LIMIT}
use Rattle.wf_talk.specs.declared.entry.Entry.{Entry}
use Rattle.wf_talk.specs.declared.job.Job.{Job}
use Rattle.wf_board.specs.Laws.Histories.{job_of_entry, lane_jobs}
use Rattle.wf_desk.specs.Desks.{AreOfLanes}
use Rattle.wf_desk.specs.Docket.{AnswersFirst, IsNextPlace, IsPlaceBehind, jobs_answered}
use Rattle.wf_desk.proofs.DocketLaws.{lane_both, lane_own, next_there, none_of_lanes, served_other, served_own}
use Rattle.wf_desk.proofs.DeskLaws.{differs}

-- ---- places behind what is answered

own_behind : (jobs : List Job) (entries : List Entry) (e : Entry) (from place : ℕ) → IsPlaceBehind jobs entries e.lane from →
    slice_get jobs from ≡ Some (job_of_entry e) →
    IsNextPlace jobs e.lane (from + 1) place → IsPlaceBehind jobs (entries ++ e ∷ []) e.lane place
own_behind jobs entries e from place old stands moved =
    let job = job_of_entry e in
    let taken : take (from + 1) jobs ≡ take from jobs ++ job ∷ [] =
    take_more jobs from job (slice_get_within jobs from job stands) ∙ ap (λ j. take from jobs ++ j ∷ []) (get_or_from_slice_get jobs from job job stands) in
    record {
      within = moved.within;
      before = served_own 0 entries e e.lane (omega arith) refl ∙ ap (λ js. js ++ job ∷ []) old.before
          ∙ ap (λ js. lane_jobs e.lane (take from jobs) ++ js) (sym (lane_own e.lane job refl)) ∙ sym (lane_both e.lane (take from jobs) (job ∷ []))
          ∙ ap (lane_jobs e.lane) (sym taken) ∙ sym moved.same;
      here = moved.here;
    }

other_behind : (jobs : List Job) (entries : List Entry) (e : Entry) (lane place : ℕ) → nat_eq e.lane lane ≡ false → IsPlaceBehind jobs entries lane place →
    IsPlaceBehind jobs (entries ++ e ∷ []) lane place
other_behind jobs entries e lane place other old = record {
  within = old.within;
  before = served_other 0 entries e lane (omega arith) other ∙ old.before;
  here = old.here;
}

-- each lane's place, where one lane goes on
pub places_on : (jobs : List Job) (entries : List Entry) (places : List ℕ) (e : Entry) (place lane : ℕ) →
    ((lane : ℕ) → lane < LANE_LIMIT → IsPlaceBehind jobs entries lane (slice_index_or places lane 0)) → e.lane < LANE_LIMIT → e.lane < length places →
    slice_get jobs (slice_index_or places e.lane 0) ≡ Some (job_of_entry e) → IsNextPlace jobs e.lane (slice_index_or places e.lane 0 + 1) place →
    lane < LANE_LIMIT →
    IsPlaceBehind jobs (entries ++ e ∷ []) lane (slice_index_or (slice_set places e.lane place) lane 0)
places_on jobs entries places e place lane placed own_known sized stands moved known = elim (bool_cases (nat_eq e.lane lane)) [
  | inl own ↦ grind (arith, eq_back, get_or-set_same, own_behind)
  | inr other ↦
      subst (IsPlaceBehind jobs (entries ++ e ∷ []) lane) (sym (get_or-set_other places e.lane lane place 0 (differs e.lane lane other)))
      (other_behind jobs entries e lane (slice_index_or places lane 0) other (placed lane known))
]

-- ---- the job of the next entry

get_of_first : {A : Type 0} (xs : List A) (n k : ℕ) (y : A) → slice_get (take n xs) k ≡ Some y → slice_get xs k ≡ Some y
get_of_first xs zero k y is = absurd (cc)
get_of_first [] (suc n) k y is = is
get_of_first (x ∷ xs) (suc n) zero y is = is
get_of_first (x ∷ xs) (suc n) (suc k) y is = get_of_first xs n k y is

pub get_behind : {A : Type 0} (xs ys : List A) (y : A) → slice_get (xs ++ y ∷ ys) (length xs) ≡ Some y
get_behind [] ys y = refl
get_behind (x ∷ xs) ys y = get_behind xs ys y

-- all entries: those before one, that one, and the others
split_at : (entries : List Entry) (i : ℕ) (e : Entry) → i < length entries → e ≡ get_or entries i e → entries ≡ take i entries ++ e ∷ drop (i + 1) entries
split_at entries i e within is = grind (arith, take-append-drop, drop_more)

-- the entry at a place answers its lane's job that comes next behind those before it
job_is : (jobs : List Job) (entries : List Entry) (i : ℕ) (e : Entry) → AnswersFirst jobs entries → i < length entries → e ≡ get_or entries i e →
    slice_get (lane_jobs e.lane jobs) (length (jobs_answered (take i entries) e.lane)) ≡ Some (job_of_entry e)
job_is jobs entries i e first within is =
    let lane = e.lane in
    let front = jobs_answered (take i entries) lane in
    let job = job_of_entry e in
    let rest = lane_jobs lane (map job_of_entry (drop (i + 1) entries)) in
    let whole : jobs_answered entries lane ≡ front ++ job ∷ rest =
    ap (λ es. lane_jobs lane (map job_of_entry es)) (split_at entries i e within is)
    ∙ ap (lane_jobs lane) (map-append job_of_entry (take i entries) (e ∷ drop (i + 1) entries))
    ∙ lane_both lane (map job_of_entry (take i entries)) (job ∷ map job_of_entry (drop (i + 1) entries))
    ∙ ap (λ js. front ++ js) (lane_both lane (job ∷ []) (map job_of_entry (drop (i + 1) entries)) ∙ ap (λ js. js ++ rest) (lane_own lane job refl)) in
    get_of_first (lane_jobs lane jobs) (length (jobs_answered entries lane)) (length front) job
    (ap (λ js. slice_get js (length front)) (sym (first lane) ∙ whole) ∙ get_behind front rest job)

-- so its lane is known
pub lane_known : (jobs : List Job) (entries : List Entry) (i : ℕ) (e : Entry) → AreOfLanes LANE_LIMIT jobs → AnswersFirst jobs entries →
    i < length entries → e ≡ get_or entries i e →
    e.lane < LANE_LIMIT
lane_known jobs entries i e of_lanes first within is = elim (bool_cases (nat_lt e.lane LANE_LIMIT)) [
  | inl known ↦ grind (arith, common_steps)
  | inr past ↦
      let none = none_of_lanes LANE_LIMIT e.lane jobs of_lanes (grind (arith, common_steps)) in
      let job = job_is jobs entries i e first within is in
      absurd (let no : None ≡ Some (job_of_entry e) = sym (ap (λ js. slice_get js (length (jobs_answered (take i entries) e.lane))) none) ∙ job in cc)
]

-- and its job stands at its lane's place
pub job_stands : (jobs : List Job) (entries : List Entry) (i : ℕ) (e : Entry) (place : ℕ) → AnswersFirst jobs entries → i < length entries →
    e ≡ get_or entries i e →
    IsPlaceBehind jobs (take i entries) e.lane place → slice_get jobs place ≡ Some (job_of_entry e)
job_stands jobs entries i e place first within is behind =
    sym (next_there jobs (jobs_answered (take i entries) e.lane) e.lane place behind.before behind.here) ∙ job_is jobs entries i e first within is

-- what is known of the places behind the first n entries
abbrev pub ArePlacesBehind : List Job → List Entry → List ℕ → Type 0
ArePlacesBehind jobs entries places = (lane : ℕ) → lane < LANE_LIMIT → IsPlaceBehind jobs entries lane (slice_index_or places lane 0)

-- the lane of an entry went on to its next job
abbrev pub HasMovedOn : List Job → List ℕ → List ℕ → ℕ → Type 0
HasMovedOn jobs places new lane = (place : ℕ) × ((new ≡ slice_set places lane place) × IsNextPlace jobs lane (slice_index_or places lane 0 + 1) place)

pub moved_on : (jobs : List Job) (entries : List Entry) (i : ℕ) (e : Entry) (places new : List ℕ) → AreOfLanes LANE_LIMIT jobs → AnswersFirst jobs entries →
    i < length entries → e ≡ get_or entries i e → ArePlacesBehind jobs (take i entries) places → e.lane < length places → HasMovedOn jobs places new e.lane →
    ArePlacesBehind jobs (take (i + 1) entries) new
moved_on jobs entries i e places new of_lanes first within is placed sized moved lane known =
    let own = lane_known jobs entries i e of_lanes first within is in
    let stands = job_stands jobs entries i e (slice_index_or places e.lane 0) first within is (placed e.lane own) in
    let more : take i entries ++ e ∷ [] ≡ take (i + 1) entries = ap (λ x. take i entries ++ x ∷ []) is ∙ sym (take_more entries i e within) in
    subst (λ es. IsPlaceBehind jobs es lane (slice_index_or new lane 0)) more
    (subst (λ ps. IsPlaceBehind jobs (take i entries ++ e ∷ []) lane (slice_index_or ps lane 0)) (sym moved.1.0)
    (places_on jobs (take i entries) places e moved.0 lane placed own sized stands moved.1.1 known))

pub place_within : (jobs : List Job) (entries : List Entry) (i : ℕ) (e : Entry) (places : List ℕ) → AreOfLanes LANE_LIMIT jobs → AnswersFirst jobs entries →
    i < length entries → e ≡ get_or entries i e → ArePlacesBehind jobs (take i entries) places → slice_index_or places e.lane 0 < length jobs
place_within jobs entries i e places of_lanes first within is placed = grind (arith, lane_known, slice_get_within, job_stands)

-- ---- the desk

-- more lanes hold the jobs of fewer
pub more_lanes : (few many : ℕ) (jobs : List Job) → few ≤ many → AreOfLanes few jobs → AreOfLanes many jobs
more_lanes few many [] within of_lanes = tt
more_lanes few many (j ∷ js) within of_lanes = (let below = of_lanes.0 in omega (arith, below, within), more_lanes few many js within of_lanes.1)
