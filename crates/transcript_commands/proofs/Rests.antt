-- The batch in which a session stopped, among those of the requests.
use Rattle.transcript_commands.proofs.Common.{◌≡◌, ℕ, ◌+◌, ◌<◌, ◌≤◌, inl, inr, nat_lt, List, [], ◌∷◌, length, take, slice_index_or, sym, subst, arith}
use Rattle.transcript_commands.proofs.Common.{common_steps, drop_all, length-drop, length-take-le, take_all, bool_cases, Entry, Job, batch_end, batch_start}
use Rattle.transcript_commands.proofs.Common.{LeadTo, AreOfLanes, FillsPart, end_at, jobs_between, start_at}
use Rattle.std.proofs.lemmas.List.{length-map}
use Rattle.wf_names.specs.declared.limits.TheConstants.{BATCH_LINE_LIMIT}
use Rattle.wf_desk.specs.Desks.{AnswersPart, served_jobs}
use Rattle.wf_desk.proofs.DocketLaws.{first_of_lanes}
use Rattle.wf_desk.specs.Laws.Parts.{lane_answered}
use Rattle.transcript_audit.specs.Keeping.{IsBatchOf, end_of}
use Rattle.transcript_audit.proofs.Batches.{batch_there, end_is, end_read, ends_within, last_start, read_behind, rest_of_lanes, start_before_end}
use Rattle.transcript_audit.proofs.Batches.{start_is}
use Rattle.transcript_audit.proofs.Parts.{map_rest}

-- there is a batch in which a place stands, or it stands behind the last
pub place_batch : (ends : List ℕ) (total n : ℕ) → LeadTo 0 ends total → n ≤ total → (k : ℕ) × IsBatchOf ends n k
place_batch ends total n lead within = elim (bool_cases (nat_lt n total)) [
  | inl short ↦ let found = batch_there ends total n lead (grind (arith, common_steps)) in (found.0, found.1.0)
  | inr full ↦ grind (arith, last_start, common_steps)
]

-- where it begins and ends
pub record StandsIn (ends : List ℕ) (total n : ℕ) : Type 0 where
  pub batch : ℕ
  pub here : IsBatchOf ends n batch
  pub start : start_at 0 n ends ≡ batch_start ends batch
  pub end : end_at n ends ≡ end_of ends batch
  pub order : batch_start ends batch ≤ end_of ends batch
  pub within : end_of ends batch ≤ total

pub stands_in : (ends : List ℕ) (total n : ℕ) → LeadTo 0 ends total → n ≤ total → StandsIn ends total n
stands_in ends total n lead within =
    let found = place_batch ends total n lead within in
    record {
      batch = found.0;
      here = found.1;
      start = start_is ends total n found.0 lead found.1;
      end = end_is ends total n found.0 lead found.1;
      order = start_before_end ends total found.0 lead found.1.known;
      within = ends_within ends total found.0 lead found.1.known;
    }

pub bounds_order : (ends : List ℕ) (total n : ℕ) → LeadTo 0 ends total → n ≤ total → start_at 0 n ends ≤ end_at n ends
bounds_order ends total n lead within =
    let at = stands_in ends total n lead within in
    let start = at.start in
    let end = at.end in
    let order = at.order in
    omega (arith, start, end, order)

pub bounds_within : (ends : List ℕ) (total n : ℕ) → LeadTo 0 ends total → n ≤ total → end_at n ends ≤ total
bounds_within ends total n lead within =
    let at = stands_in ends total n lead within in
    let end = at.end in
    let inside = at.within in
    omega (arith, end, inside)

-- ---- how many jobs it has

pub near_from : (before : ℕ) (ends : List ℕ) (total k : ℕ) → LeadTo before ends total → k < length ends →
    slice_index_or ends k 0 ≤ slice_index_or (before ∷ ends) k 0 + BATCH_LINE_LIMIT
near_from before [] total k lead known = absurd (omega (arith, known))
near_from before (x ∷ xs) total k lead known = grind (arith, (near_from x xs))

pub short_between : (ends : List ℕ) (n : ℕ) (jobs : List Job) → LeadTo 0 ends (length jobs) → n ≤ length jobs →
    length (jobs_between (start_at 0 n ends) (end_at n ends) jobs) ≤ BATCH_LINE_LIMIT
short_between ends n jobs lead within =
    let at = stands_in ends (length jobs) n lead within in
    let start = at.start in
    let end = at.end in
    let size = length-drop (start_at 0 n ends) (take (end_at n ends) jobs) in
    let first = length-take-le (end_at n ends) jobs (bounds_within ends (length jobs) n lead within) in
    elim (bool_cases (nat_lt at.batch (length ends))) [
      | inl ahead ↦ grind (arith, common_steps, end_read, near_from)
      | inr shut ↦ grind (arith, common_steps, read_behind)
    ]

-- ---- what of it is answered

answered_here : (es : List Entry) (ends : List ℕ) (k lane : ℕ) → length es ≤ batch_end ends k →
    lane_answered es ends k lane ≡ served_jobs (batch_start ends k) es lane
answered_here es ends k lane within = grind (arith, length-map, take_all, map_rest)

ahead_part : (es : List Entry) (jobs : List Job) (ends : List ℕ) (k : ℕ) → FillsPart es jobs ends → IsBatchOf ends (length es) k → k < length ends →
    AnswersPart es (batch_start ends k) (jobs_between (batch_start ends k) (end_of ends k) jobs)
ahead_part es jobs ends k part here ahead = grind (arith, end_read, answered_here, take_all)

behind_part : (es : List Entry) (jobs : List Job) (n : ℕ) → length es ≡ n → AnswersPart es n (jobs_between n n jobs)
behind_part es jobs n is = grind (arith, drop_all)

pub answers_part : (es : List Entry) (jobs : List Job) (ends : List ℕ) → LeadTo 0 ends (length jobs) → FillsPart es jobs ends →
    AnswersPart es (start_at 0 (length es) ends) (jobs_between (start_at 0 (length es) ends) (end_at (length es) ends) jobs)
answers_part es jobs ends lead part =
    let at = stands_in ends (length jobs) (length es) lead part.few in
    let k = at.batch in
    subst (λ s. AnswersPart es s (jobs_between s (end_at (length es) ends) jobs)) (sym at.start)
    (subst (λ e. AnswersPart es (batch_start ends k) (jobs_between (batch_start ends k) e jobs)) (sym at.end)
    (elim (bool_cases (nat_lt k (length ends))) [
      | inl ahead ↦ ahead_part es jobs ends k part at.here (grind (arith, common_steps))
      | inr shut ↦ grind (arith, common_steps, read_behind, behind_part)
    ]))

-- ---- lanes

-- each of the jobs between two places is of one of the lanes
pub lanes_between : (lanes from end : ℕ) (jobs : List Job) → AreOfLanes lanes jobs → AreOfLanes lanes (jobs_between from end jobs)
lanes_between lanes from end jobs of_lanes = rest_of_lanes lanes from (take end jobs) (first_of_lanes lanes end jobs of_lanes)

-- ---- the bounds, end after end
