-- The cursor of an audit stands at the next job of each lane.
use Rattle.std.proofs.Common.{◌≡◌, ◌≢◌, ℕ, ◌+◌, ◌<◌, ◌≤◌, inl, inr, true, false, nat_eq, List, [], ◌∷◌, ◌++◌, length, take, slice_get, slice_index_or}
use Rattle.std.proofs.Common.{slice_set, None, Some, refl, sym, ap, subst, ◌∙◌, arith}
use Rattle.std.proofs.lemmas.Grind.{common_steps}
use Rattle.std.proofs.lemmas.List.{get_or-set_other, get_or-set_same, length-append, take_more}
use Rattle.std.proofs.lemmas.Option.{get_or_from_slice_get, slice_get_within}
use Rattle.basics.proofs.Booleans.{bool_cases, eq_back, eq_is}
use Rattle.wf_names.specs.declared.limits.TheConstants.{LANE_LIMIT}
use Rattle.policy_book.specs.Laws.Shapes.{PolicyShape}
use Rattle.wf_talk.specs.declared.entry.Entry.{Entry}
use Rattle.wf_talk.specs.declared.job.Job.{Job}
use Rattle.wf_board.specs.Laws.Histories.{batch_start, job_of_entry, lane_jobs}
use Rattle.line_reader.specs.Laws.{AreInOrder}
use Rattle.wf_desk.specs.Keeping.{IsLanePlace}
use Rattle.wf_desk.specs.Docket.{IsNextPlace}
use Rattle.wf_desk.proofs.DocketLaws.{lane_both, lane_own, next_at, served_other, served_own}
use Rattle.wf_desk.proofs.DeskLaws.{differs}
use Rattle.transcript_audit.specs.declared.cursor.Cursor.{Cursor}
use Rattle.transcript_audit.specs.Auditor.{AuditShape, ComesNext, audit_of, next_job, present_jobs, present_start, with_entry}
use Rattle.transcript_audit.specs.Keeping.{HasMovedOn, IsAtFirst, IsPlaceIn, IsRecord, IsSoundAudit, end_of, jobs_in, part}
use Rattle.transcript_audit.proofs.Batches.{ends_within, next_start, part_none, start_before_end}
use Rattle.transcript_audit.proofs.Sound.{desk_of, end_now, next_is, next_open, next_short, none_served, sound_past, sound_start, sound_within, start_now}

-- the jobs of the present batch
pub present_is : (a : AuditShape) (c : Cursor) → IsRecord a c → present_jobs a ≡ jobs_in a.jobs a.batch_ends c.batch
present_is a c is = (λ i. part (start_now a c.batch is.sound i) (end_now a c.batch is.sound i) a.jobs)

-- and as the cursor has them
pub batch_is : (a : AuditShape) (c : Cursor) → IsRecord a c → part c.start c.end a.jobs ≡ present_jobs a
batch_is a c is = (λ i. part (is.start i) (is.ends i) a.jobs) ∙ sym (present_is a c is)

pub cursor_start : (a : AuditShape) (c : Cursor) → IsRecord a c → c.start ≡ present_start a
cursor_start a c is = is.start ∙ sym (start_now a c.batch is.sound)

pub cursor_order : (a : AuditShape) (c : Cursor) → IsRecord a c → c.start ≤ c.end
cursor_order a c is = grind (arith, start_before_end)

pub cursor_within : (a : AuditShape) (c : Cursor) → IsRecord a c → c.end ≤ length a.jobs
cursor_within a c is = grind (arith, ends_within)

pub cursor_begun : (a : AuditShape) (c : Cursor) → IsRecord a c → c.start ≤ length a.entries
cursor_begun a c is = grind arith

desk_place : (a : AuditShape) (c : Cursor) (lane place : ℕ) → IsRecord a c → IsPlaceIn (jobs_in a.jobs a.batch_ends c.batch) c.start a.entries lane place →
    IsLanePlace (desk_of a c.batch) lane place
desk_place a c lane place is stands = grind arith

next_there : (a : AuditShape) (c : Cursor) (lane : ℕ) → IsRecord a c → lane < LANE_LIMIT →
    next_job a lane ≡ slice_get (jobs_in a.jobs a.batch_ends c.batch) (slice_index_or c.places lane 0)
next_there a c lane is known =
    next_is a c.batch lane is.sound ∙
    next_at (desk_of a c.batch) lane (slice_index_or c.places lane 0) (desk_place a c lane (slice_index_or c.places lane 0) is (is.placed lane known))

-- a lane's next job stands at its place
pub next_placed : (a : AuditShape) (c : Cursor) (lane : ℕ) (jobs : List Job) → IsRecord a c → lane < LANE_LIMIT → jobs ≡ present_jobs a →
    slice_get jobs (slice_index_or c.places lane 0) ≡ next_job a lane
next_placed a c lane jobs is known same = grind (arith, present_is, next_there)

-- no job is of a lane past the limit
pub next_past : (a : AuditShape) (c : Cursor) (lane : ℕ) → IsRecord a c → LANE_LIMIT ≤ lane → None ≡ next_job a lane
next_past a c lane is past = grind (arith, part_none, next_is)

pub next_known : (a : AuditShape) (c : Cursor) (lane : ℕ) (j : Job) → IsRecord a c → next_job a lane ≡ Some j → lane < LANE_LIMIT
next_known a c lane j is next = grind (arith, bool_cases, common_steps, next_past)

-- where a lane's next job stands in the batch
pub place_short : (a : AuditShape) (c : Cursor) (lane : ℕ) (j : Job) → IsRecord a c → next_job a lane ≡ Some j →
    slice_index_or c.places lane 0 < length (part c.start c.end a.jobs)
place_short a c lane j is next = grind (arith, next_known, next_there, batch_is, present_is, slice_get_within)

-- ---- one more entry

own_place : (start : ℕ) (entries : List Entry) (jobs : List Job) (e : Entry) (from place : ℕ) → start ≤ length entries →
    IsPlaceIn jobs start entries e.lane from →
    slice_get jobs from ≡ Some (job_of_entry e) → IsNextPlace jobs e.lane (from + 1) place → IsPlaceIn jobs start (entries ++ e ∷ []) e.lane place
own_place start entries jobs e from place begun old stands moved =
    let job = job_of_entry e in
    let taken : take (from + 1) jobs ≡ take from jobs ++ job ∷ [] =
    take_more jobs from job (slice_get_within jobs from job stands) ∙ ap (λ j. take from jobs ++ j ∷ []) (get_or_from_slice_get jobs from job job stands) in
    record {
      within = moved.within;
      before = served_own start entries e e.lane begun refl ∙ ap (λ js. js ++ job ∷ []) old.before
          ∙ ap (λ js. lane_jobs e.lane (take from jobs) ++ js) (sym (lane_own e.lane job refl)) ∙ sym (lane_both e.lane (take from jobs) (job ∷ []))
          ∙ ap (lane_jobs e.lane) (sym taken) ∙ sym moved.same;
      here = moved.here;
    }

other_place : (start : ℕ) (entries : List Entry) (jobs : List Job) (e : Entry) (lane place : ℕ) → start ≤ length entries → nat_eq e.lane lane ≡ false →
    IsPlaceIn jobs start entries lane place → IsPlaceIn jobs start (entries ++ e ∷ []) lane place
other_place start entries jobs e lane place begun other old = grind (arith, served_other)

-- each lane's place, where one lane goes on
places_on : (start : ℕ) (entries : List Entry) (jobs : List Job) (places : List ℕ) (e : Entry) (place lane : ℕ) → start ≤ length entries →
    ((lane : ℕ) → lane < LANE_LIMIT → IsPlaceIn jobs start entries lane (slice_index_or places lane 0)) → e.lane < LANE_LIMIT → e.lane < length places →
    slice_get jobs (slice_index_or places e.lane 0) ≡ Some (job_of_entry e) → IsNextPlace jobs e.lane (slice_index_or places e.lane 0 + 1) place →
    lane < LANE_LIMIT →
    IsPlaceIn jobs start (entries ++ e ∷ []) lane (slice_index_or (slice_set places e.lane place) lane 0)
places_on start entries jobs places e place lane begun placed own_known sized stands moved known = elim (bool_cases (nat_eq e.lane lane)) [
  | inl own ↦
      let same : e.lane ≡ lane = eq_back e.lane lane own in
      subst (λ n. IsPlaceIn jobs start (entries ++ e ∷ []) n (slice_index_or (slice_set places e.lane place) n 0)) same
      (subst (IsPlaceIn jobs start (entries ++ e ∷ []) e.lane) (sym (get_or-set_same places e.lane place 0 sized))
      (own_place start entries jobs e (slice_index_or places e.lane 0) place begun (placed e.lane own_known) stands moved))
  | inr other ↦
      subst (IsPlaceIn jobs start (entries ++ e ∷ []) lane) (sym (get_or-set_other places e.lane lane place 0 (differs e.lane lane other)))
      (other_place start entries jobs e lane (slice_index_or places lane 0) begun other (placed lane known))
]

-- within the batch
record_within : (a : AuditShape) (c : Cursor) (e : Entry) (place : ℕ) → IsRecord a c → ComesNext a e →
    length (a.entries ++ e ∷ []) < end_of a.batch_ends c.batch →
    e.lane < length c.places → IsNextPlace (part c.start c.end a.jobs) e.lane (slice_index_or c.places e.lane 0 + 1) place →
    IsRecord (with_entry a e) (record c { places = slice_set c.places e.lane place })
record_within a c e place is next short sized moved =
    let known = next_known a c e.lane (job_of_entry e) is next.answers in
    let jobs = jobs_in a.jobs a.batch_ends c.batch in
    let stands : slice_get jobs (slice_index_or c.places e.lane 0) ≡ Some (job_of_entry e) = sym (next_there a c e.lane is known) ∙ next.answers in
    let there = subst (λ js. IsNextPlace js e.lane (slice_index_or c.places e.lane 0 + 1) place) (batch_is a c is ∙ present_is a c is) moved in
    record {
      sound = sound_within a c.batch e is.sound next short;
      start = is.start;
      ends = is.ends;
      placed = λ lane below. places_on c.start a.entries jobs c.places e place lane (cursor_begun a c is) is.placed known sized stands there below;
    }

first_place : (jobs : List Job) (start : ℕ) (entries : List Entry) (lane place : ℕ) → length entries ≤ start → IsNextPlace jobs lane 0 place →
    IsPlaceIn jobs start entries lane place
first_place jobs start entries lane place past first = grind (arith, none_served)

-- the first jobs of a batch
first_places : (jobs : List Job) (ends : List ℕ) (k start : ℕ) (entries : List Entry) (c : Cursor) → start ≡ batch_start ends k → length entries ≤ start →
    IsAtFirst jobs ends k start c → (lane : ℕ) → lane < LANE_LIMIT → IsPlaceIn (jobs_in jobs ends k) c.start entries lane (slice_index_or c.places lane 0)
first_places jobs ends k start entries c begins past first lane known = grind (arith, first_place)

record_first : (a : AuditShape) (k start : ℕ) (c : Cursor) → IsSoundAudit a k → start ≡ batch_start a.batch_ends k → length a.entries ≤ start →
    IsAtFirst a.jobs a.batch_ends k start c →
    IsRecord a c
record_first a k start c sound begins past first = grind (arith, first_places)

-- before the first line
pub record_start : (p : PolicyShape) (rounds : ℕ) (jobs : List Job) (ends : List ℕ) (c : Cursor) → AreInOrder LANE_LIMIT jobs ends → IsAtFirst jobs ends 0 0 c →
    IsRecord (audit_of p rounds jobs ends) c
record_start p rounds jobs ends c order first = record_first (audit_of p rounds jobs ends) 0 0 c (sound_start p rounds jobs ends order) refl (omega arith) first

-- with one more entry
pub record_more : (a : AuditShape) (c : Cursor) (e : Entry) (n : ℕ) (d : Cursor) → IsRecord a c → ComesNext a e → n ≡ length a.entries + 1 →
    HasMovedOn a.jobs a.batch_ends e.lane n c d → IsRecord (with_entry a e) d
record_more a c e n d is next count gone = elim (bool_cases (nat_eq n c.end)) [
  | inl full ↦
      let k = c.batch in
      let stop : n ≡ c.end = eq_back n c.end full in
      let stops = is.ends in
      let size = length-append a.entries (e ∷ []) in
      let whole : length (a.entries ++ e ∷ []) ≡ end_of a.batch_ends k = omega (arith, stop, stops, size, count) in
      let ahead = next_open a k e.lane (job_of_entry e) is.sound next.answers in
      let begins : c.end ≡ batch_start a.batch_ends (k + 1) = is.ends ∙ sym (next_start a.batch_ends k ahead) in
      record_first (with_entry a e) (k + 1) c.end d (sound_past a k e is.sound next whole) begins (omega (arith, whole, stops)) (gone.past stop)
  | inr short ↦
      let within = next_short a c.batch e.lane (job_of_entry e) is.sound next.answers in
      let other : n ≢ c.end = λ same. absurd (let yes = eq_is n c.end same in let no : true ≡ false = sym yes ∙ short in cc) in
      let stops = is.ends in
      let size = length-append a.entries (e ∷ []) in
      let left : length (a.entries ++ e ∷ []) < end_of a.batch_ends c.batch = grind (arith, common_steps) in
      let moved = gone.within other in
      subst (IsRecord (with_entry a e)) (sym moved.kept) (record_within a c e moved.place is next left moved.sized moved.moved)
]

-- the next batch stands among the jobs
pub next_begins : (a : AuditShape) (c : Cursor) (lane : ℕ) (j : Job) → IsRecord a c → next_job a lane ≡ Some j →
    c.end ≤ slice_index_or a.batch_ends (c.batch + 1) c.end
next_begins a c lane j is next =
    let ahead = next_open a c.batch lane j is.sound next in
    let begins : c.end ≡ batch_start a.batch_ends (c.batch + 1) = is.ends ∙ sym (next_start a.batch_ends c.batch ahead) in
    let within = start_before_end a.batch_ends (length a.jobs) (c.batch + 1) is.sound.order.ends (omega (arith, ahead)) in
    let same = ap (λ s. slice_index_or a.batch_ends (c.batch + 1) s) begins in
    omega (arith, begins, within, same)

pub next_ends : (a : AuditShape) (c : Cursor) (lane : ℕ) (j : Job) → IsRecord a c → next_job a lane ≡ Some j →
    slice_index_or a.batch_ends (c.batch + 1) c.end ≤ length a.jobs
next_ends a c lane j is next =
    let ahead = next_open a c.batch lane j is.sound next in
    let begins : c.end ≡ batch_start a.batch_ends (c.batch + 1) = is.ends ∙ sym (next_start a.batch_ends c.batch ahead) in
    let within = ends_within a.batch_ends (length a.jobs) (c.batch + 1) is.sound.order.ends (omega (arith, ahead)) in
    let same = ap (λ s. slice_index_or a.batch_ends (c.batch + 1) s) begins in
    omega (arith, within, same)

-- the record once its entry is added
pub added_record : (a : AuditShape) (c d : Cursor) (e : Entry) (entries : List Entry) (n : ℕ) → IsRecord a c → ComesNext a e →
    entries ≡ a.entries ++ e ∷ [] → n ≡ length entries →
    HasMovedOn a.jobs a.batch_ends e.lane n c d → IsRecord (record a { entries = entries }) d
added_record a c d e entries n is next added count gone = grind (arith, length-append, record_more)
