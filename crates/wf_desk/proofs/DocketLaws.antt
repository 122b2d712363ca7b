-- The lanes of a docket, job after job.
use Rattle.std.proofs.Common.{◌≡◌, ℕ, zero, suc, ◌+◌, ◌-◌, ◌<◌, ◌≤◌, inl, inr, false, nat_eq, List, [], ◌∷◌, ◌++◌, length, take, drop, map, slice_get}
use Rattle.std.proofs.Common.{IfSome, None, Some, refl, sym, ap, subst, ◌∙◌, arith, append-nil}
use Rattle.std.proofs.lemmas.Grind.{common_steps}
use Rattle.std.proofs.lemmas.List.{map-append, length-map, length-append, length-drop, take-append-drop, drop-append-le, take_more, take_rest, take_all}
use Rattle.std.proofs.lemmas.List.{length-take-le}
use Rattle.std.proofs.lemmas.List.Elements.{filter-append}
use Rattle.std.proofs.lemmas.Option.{slice_get_within, get_or_from_slice_get}
use Rattle.std.proofs.Math.ListN.{drop_of_length-le}
use Rattle.std.proofs.Math.Seq.{take-length}
use Rattle.basics.proofs.Booleans.{bool_cases, eq_back, eq_is}
use Rattle.wf_talk.specs.declared.entry.Entry.{Entry}
use Rattle.wf_talk.specs.declared.job.Job.{Job}
use Rattle.wf_board.specs.Laws.Histories.{EachAfter, RestsFrom, job_of_entry, lane_jobs}
use Rattle.wf_desk.specs.Desks.{AreOfLanes, DeskShape, IsDone, IsSoundDesk, left_of, next_job, served, served_jobs}
use Rattle.wf_desk.specs.Keeping.{IsLanePlace}
use Rattle.wf_desk.specs.BatchLaws.{AnswersBatch}
use Rattle.wf_desk.proofs.Fronts.{Fronts, fronts_short, fronts_within}

-- the jobs of a lane of two lists
pub lane_both : (lane : ℕ) (xs ys : List Job) → lane_jobs lane (xs ++ ys) ≡ lane_jobs lane xs ++ lane_jobs lane ys
lane_both lane xs ys = filter-append (λ j. nat_eq j.lane lane) xs ys

-- and of one job
pub lane_own : (lane : ℕ) (j : Job) → j.lane ≡ lane → lane_jobs lane (j ∷ []) ≡ j ∷ []
lane_own lane j own = rw (eq_is j.lane lane own) refl

lane_other : (lane : ℕ) (j : Job) → nat_eq j.lane lane ≡ false → lane_jobs lane (j ∷ []) ≡ []
lane_other lane j other = rw other refl

-- all jobs of a lane: those before a place, and the others
lane_split : (lane place : ℕ) (jobs : List Job) → lane_jobs lane jobs ≡ lane_jobs lane (take place jobs) ++ lane_jobs lane (drop place jobs)
lane_split lane place jobs = ap (lane_jobs lane) (sym (take-append-drop place jobs)) ∙ lane_both lane (take place jobs) (drop place jobs)

-- a lane's answered jobs with one more entry
pub served_more : (start : ℕ) (entries : List Entry) (e : Entry) (lane : ℕ) → start ≤ length entries →
    served_jobs start (entries ++ e ∷ []) lane ≡ served_jobs start entries lane ++ lane_jobs lane (job_of_entry e ∷ [])
served_more start entries e lane begun = grind (arith, drop-append-le, map-append, lane_both)

pub served_other : (start : ℕ) (entries : List Entry) (e : Entry) (lane : ℕ) → start ≤ length entries → nat_eq e.lane lane ≡ false →
    served_jobs start (entries ++ e ∷ []) lane ≡ served_jobs start entries lane
served_other start entries e lane begun other = grind (arith, served_more, lane_other, append-nil)

pub served_own : (start : ℕ) (entries : List Entry) (e : Entry) (lane : ℕ) → start ≤ length entries → e.lane ≡ lane →
    served_jobs start (entries ++ e ∷ []) lane ≡ served_jobs start entries lane ++ job_of_entry e ∷ []
served_own start entries e lane begun own = grind (arith, served_more, lane_own)

-- the first items are the first items with the next one
pub front_more : (front whole : List Job) (j : Job) → front ≡ take (length front) whole → slice_get whole (length front) ≡ Some j →
    front ++ j ∷ [] ≡ take (length (front ++ j ∷ [])) whole
front_more front whole j begins next =
    let size : length (front ++ j ∷ []) ≡ length front + 1 = length-append front (j ∷ []) in
    ap (λ js. js ++ j ∷ []) begins
    ∙ ap (λ x. take (length front) whole ++ x ∷ []) (sym (get_or_from_slice_get whole (length front) j j next))
    ∙ sym (take_more whole (length front) j (slice_get_within whole (length front) j next))
    ∙ ap (λ n. take n whole) (sym size)

get_behind : {A : Type 0} (xs ys : List A) → slice_get (xs ++ ys) (length xs) ≡ slice_get ys 0
get_behind [] ys = refl
get_behind (x ∷ xs) ys = get_behind xs ys

get_first : {A : Type 0} (xs : List A) (n : ℕ) → slice_get (drop n xs) 0 ≡ slice_get xs n
get_first xs zero = refl
get_first [] (suc n) = refl
get_first (x ∷ xs) (suc n) = get_first xs n

-- the first job of a lane in a list that begins with one, or is empty
head_own : (lane : ℕ) (jobs : List Job) → IfSome (slice_get jobs 0) (λ j. j.lane ≡ lane) → slice_get (lane_jobs lane jobs) 0 ≡ slice_get jobs 0
head_own lane [] here = refl
head_own lane (j ∷ js) here = rw (eq_is j.lane lane here) refl

-- behind those of its jobs that are done, a lane's next job stands at its place
pub next_there : (jobs done : List Job) (lane place : ℕ) → done ≡ lane_jobs lane (take place jobs) → IfSome (slice_get jobs place) (λ j. j.lane ≡ lane) →
    slice_get (lane_jobs lane jobs) (length done) ≡ slice_get jobs place
next_there jobs done lane place before here =
    let front = lane_jobs lane (take place jobs) in
    let behind = drop place jobs in
    ap (λ js. slice_get js (length done)) (lane_split lane place jobs)
    ∙ ap (λ js. slice_get (front ++ lane_jobs lane behind) (length js)) before
    ∙ get_behind front (lane_jobs lane behind)
    ∙ head_own lane behind (subst (λ o. IfSome o (λ (j : Job). j.lane ≡ lane)) (sym (get_first jobs place)) here)
    ∙ get_first jobs place

-- a lane's next job stands at its place
pub next_at : (d : DeskShape) (lane place : ℕ) → IsLanePlace d lane place → next_job d lane ≡ slice_get d.jobs place
next_at d lane place is = next_there d.jobs (served d lane) lane place is.before is.here

-- how many jobs a lane has left from its place on
pub left_at : (d : DeskShape) (lane place : ℕ) → IsLanePlace d lane place → left_of d lane ≡ length (lane_jobs lane (drop place d.jobs))
left_at d lane place is =
    let front = lane_jobs lane (take place d.jobs) in
    let behind = lane_jobs lane (drop place d.jobs) in
    let whole = ap length (lane_split lane place d.jobs) ∙ length-append front behind in
    let done = ap length is.before in
    omega (arith, whole, done)

-- a lane past the last has no jobs
pub none_of_lanes : (lanes lane : ℕ) (jobs : List Job) → AreOfLanes lanes jobs → lanes ≤ lane → lane_jobs lane jobs ≡ []
none_of_lanes lanes lane [] of_lanes past = refl
none_of_lanes lanes lane (j ∷ js) of_lanes past = grind (arith, common_steps, (none_of_lanes lanes lane js of_lanes.1 past))

-- the first jobs are of the lanes of all
pub first_of_lanes : (lanes n : ℕ) (jobs : List Job) → AreOfLanes lanes jobs → AreOfLanes lanes (take n jobs)
first_of_lanes lanes zero jobs of_lanes = tt
first_of_lanes lanes (suc n) jobs of_lanes = grind (arith, (first_of_lanes lanes n))

-- no job is of a lane past the number of lanes
pub left_past : (d : DeskShape) (lane : ℕ) → AreOfLanes d.lanes d.jobs → d.lanes ≤ lane → left_of d lane ≡ 0
left_past d lane of_lanes past = let none = ap length (none_of_lanes d.lanes lane d.jobs of_lanes past) in omega (arith, none)

-- the lane of the next job
pub next_lane : (lane n : ℕ) (jobs : List Job) (j : Job) → slice_get (lane_jobs lane jobs) n ≡ Some j → j.lane ≡ lane
next_lane lane n [] j next = absurd (cc)
next_lane lane n (x ∷ xs) j next = elim (bool_cases (nat_eq x.lane lane)) [
  | inl own ↦ first_lane n (rw own at next) (eq_back x.lane lane own) (λ m is. next_lane lane m xs j is)
  | inr other ↦ next_lane lane n xs j (rw other at next)
]
  where
    first_lane : (m : ℕ) → slice_get (x ∷ lane_jobs lane xs) m ≡ Some j → x.lane ≡ lane →
        ((k : ℕ) → slice_get (lane_jobs lane xs) k ≡ Some j → j.lane ≡ lane) → j.lane ≡ lane
    first_lane zero is own later = let same : x ≡ j = cc in ap (λ (k : Job). k.lane) (sym same) ∙ own
    first_lane (suc m) is own later = later m is

-- ---- how many are answered

lanes_front : (d : DeskShape) → ((lane : ℕ) → served d lane ≡ take (length (served d lane)) (lane_jobs lane d.jobs)) →
    Fronts (λ (j : Job). j.lane) (map job_of_entry (drop d.start d.entries)) d.jobs
lanes_front d front = record { front = λ lane. sym (front lane) }

-- where a lane has a job left, fewer jobs are answered than there are
pub batch_short : (d : DeskShape) (lane : ℕ) (j : Job) → d.start ≤ length d.entries →
    ((lane : ℕ) → served d lane ≡ take (length (served d lane)) (lane_jobs lane d.jobs)) → next_job d lane ≡ Some j →
    length d.entries < d.start + length d.jobs
batch_short d lane j begun front next =
    let done = map job_of_entry (drop d.start d.entries) in
    let short = fronts_short (λ (k : Job). k.lane) lane done d.jobs (lanes_front d front)
    (slice_get_within (lane_jobs lane d.jobs) (length (served d lane)) j next) in
    let size = length-map (drop d.start d.entries) job_of_entry in
    omega (arith, short, size, begun, length-drop d.start d.entries)

-- the entries from a place on, where there are so many, and where there are not
pub rest_from : {A : Type 0} (xs : List A) (n : ℕ) → take (length xs - n) (drop n xs) ≡ drop n xs
rest_from xs n = take_rest xs n

pub rest_none : {A : Type 0} (xs : List A) (n : ℕ) → length xs ≤ n → drop n xs ≡ []
rest_none xs n past = drop_of_length-le xs past

-- no more jobs are answered than there are
pub no_more : (d : DeskShape) → d.start ≤ length d.entries → ((lane : ℕ) → served d lane ≡ take (length (served d lane)) (lane_jobs lane d.jobs)) →
    length d.entries ≤ d.start + length d.jobs
no_more d begun front =
    let within = fronts_within (λ (k : Job). k.lane) (map job_of_entry (drop d.start d.entries)) d.jobs (lanes_front d front) in
    let size = length-map (drop d.start d.entries) job_of_entry in
    omega (arith, within, size, begun, length-drop d.start d.entries)

pub batch_within : (d : DeskShape) → IsSoundDesk d → length d.entries ≤ d.start + length d.jobs
batch_within d sound = no_more d sound.begun sound.front

none_past : {A : Type 0} (xs : List A) (n : ℕ) → slice_get xs n ≡ None → length xs ≤ n
none_past [] n none = omega arith
none_past (x ∷ xs) n none = grind (arith, (none_past xs))

lane_done : (d : DeskShape) (lane : ℕ) → served d lane ≡ take (length (served d lane)) (lane_jobs lane d.jobs) → next_job d lane ≡ None →
    served d lane ≡ lane_jobs lane d.jobs
lane_done d lane front none = grind (arith, take_all, none_past)

-- where no lane has a job left, the entries of the batch answer its jobs
pub all_done : (d : DeskShape) → d.start ≤ length d.entries → ((lane : ℕ) → served d lane ≡ take (length (served d lane)) (lane_jobs lane d.jobs)) →
    EachAfter (RestsFrom d.start) (take d.start d.entries) (drop d.start d.entries) → IsDone d →
    AnswersBatch (take d.start d.entries) (drop d.start d.entries) d.jobs
all_done d begun front rests done =
    let same : (lane : ℕ) → served d lane ≡ lane_jobs lane d.jobs = λ lane. lane_done d lane (front lane) (done lane) in
    let answered = map job_of_entry (drop d.start d.entries) in
    let back : Fronts (λ (j : Job). j.lane) d.jobs answered =
    record {
      front =
          λ lane. subst (λ js. take (length (lane_jobs lane d.jobs)) js ≡ lane_jobs lane d.jobs) (sym (same lane)) (take-length (lane_jobs lane d.jobs));
    } in
    let above = fronts_within (λ (j : Job). j.lane) d.jobs answered back in
    let below = fronts_within (λ (j : Job). j.lane) answered d.jobs (lanes_front d front) in
    let size = length-map (drop d.start d.entries) job_of_entry in
    let first : length (take d.start d.entries) ≡ d.start = length-take-le d.start d.entries begun in
    record {
      whole = omega (arith, above, below, size);
      lanes = same;
      rests = subst (λ n. EachAfter (RestsFrom n) (take d.start d.entries) (drop d.start d.entries)) (sym first) rests;
    }

pub batch_done : (d : DeskShape) → IsSoundDesk d → IsDone d → AnswersBatch (take d.start d.entries) (drop d.start d.entries) d.jobs
batch_done d sound done = all_done d sound.begun sound.front sound.rests done
