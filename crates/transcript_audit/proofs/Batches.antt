-- Batches among the jobs.
use Rattle.std.proofs.Common.{◌≡◌, ℕ, zero, suc, ◌+◌, ◌-◌, ◌<◌, ◌≤◌, inl, inr, nat_lt, List, [], ◌∷◌, length, take, drop, slice_index_or}
use Rattle.std.proofs.Common.{refl, sym, ap, ◌∙◌, arith}
use Rattle.std.proofs.lemmas.Grind.{common_steps}
use Rattle.std.proofs.lemmas.List.{drop-take, length-drop, length-take-le}
use Rattle.basics.proofs.Booleans.{bool_cases}
use Rattle.wf_talk.specs.declared.job.Job.{Job}
use Rattle.wf_board.specs.Laws.Histories.{batch_start, lane_jobs}
use Rattle.wf_talk.specs.Jobs.{AreOfLanes}
use Rattle.line_reader.specs.Laws.{LeadTo}
use Rattle.wf_desk.specs.BatchLaws.{EndAt}
use Rattle.wf_desk.proofs.DocketLaws.{first_of_lanes, none_of_lanes}
use Rattle.transcript_audit.specs.Auditor.{end_at, start_at}
use Rattle.transcript_audit.specs.Keeping.{IsBatchOf, end_of, part}

-- where the batch with a number begins, of those from a place on
abbrev from_start : ℕ → List ℕ → ℕ → ℕ
from_start before ends k = slice_index_or (before ∷ ends) k 0

-- each batch begins at or behind the place from which they lead
start_behind : (before : ℕ) (ends : List ℕ) (total k : ℕ) → LeadTo before ends total → k ≤ length ends → before ≤ from_start before ends k
start_behind before ends total zero lead known = omega arith
start_behind before [] total (suc k) lead known = absurd (omega (arith, known))
start_behind before (x ∷ xs) total (suc k) lead known = grind (arith, (start_behind x xs total k lead.2 (omega (arith, known))))

-- and within the total
start_total : (before : ℕ) (ends : List ℕ) (total k : ℕ) → LeadTo before ends total → k ≤ length ends → from_start before ends k ≤ total
start_total before [] total zero lead known = omega (arith, lead)
start_total before [] total (suc k) lead known = absurd (omega (arith, known))
start_total before (x ∷ xs) total zero lead known = grind (arith, (start_total x xs total zero lead.2 (omega arith)))
start_total before (x ∷ xs) total (suc k) lead known = start_total x xs total k lead.2 (omega (arith, known))

-- a batch ends behind where it begins
end_behind : (before : ℕ) (ends : List ℕ) (total k : ℕ) → LeadTo before ends total → k < length ends → from_start before ends k < slice_index_or ends k 0
end_behind before [] total k lead known = absurd (omega (arith, known))
end_behind before (x ∷ xs) total zero lead known = lead.0
end_behind before (x ∷ xs) total (suc k) lead known = end_behind x xs total k lead.2 (omega (arith, known))

-- the last ends at the total
end_total : (before : ℕ) (ends : List ℕ) (total : ℕ) → LeadTo before ends total → from_start before ends (length ends) ≡ total
end_total before [] total lead = lead
end_total before (x ∷ xs) total lead = end_total x xs total lead.2

end_below : (before : ℕ) (ends : List ℕ) (total k : ℕ) → LeadTo before ends total → k < length ends → slice_index_or ends k 0 ≤ total
end_below before ends total k lead known = start_total before ends total (suc k) lead (omega (arith, known))

-- ---- the batch in which a place stands

start_here : (before : ℕ) (ends : List ℕ) (total n k : ℕ) → LeadTo before ends total → k ≤ length ends → from_start before ends k ≤ n →
    (k < length ends → n < slice_index_or ends k 0) → start_at before n ends ≡ from_start before ends k
start_here before [] total n zero lead known begun ahead = refl
start_here before [] total n (suc k) lead known begun ahead = absurd (omega (arith, known))
start_here before (x ∷ xs) total n zero lead known begun ahead = grind (arith, common_steps)
start_here before (x ∷ xs) total n (suc k) lead known begun ahead =
    grind (arith, start_behind, common_steps, (start_here x xs total n k lead.2 (omega (arith, known)) begun (λ more. ahead (omega (arith, more)))))

end_here : (before : ℕ) (ends : List ℕ) (total n k : ℕ) → LeadTo before ends total → k ≤ length ends → from_start before ends k ≤ n →
    (k < length ends → n < slice_index_or ends k 0) → end_at n ends ≡ slice_index_or ends k n
end_here before [] total n zero lead known begun ahead = refl
end_here before [] total n (suc k) lead known begun ahead = absurd (omega (arith, known))
end_here before (x ∷ xs) total n zero lead known begun ahead = grind (arith, common_steps)
end_here before (x ∷ xs) total n (suc k) lead known begun ahead =
    grind (arith, start_behind, common_steps, (end_here x xs total n k lead.2 (omega (arith, known)) begun (λ more. ahead (omega (arith, more)))))

pub start_is : (ends : List ℕ) (total n k : ℕ) → LeadTo 0 ends total → IsBatchOf ends n k → start_at 0 n ends ≡ batch_start ends k
start_is ends total n k lead here = start_here 0 ends total n k lead here.known here.begun here.before

read_within : (ends : List ℕ) (k d e : ℕ) → k < length ends → slice_index_or ends k d ≡ slice_index_or ends k e
read_within [] k d e known = absurd (omega (arith, known))
read_within (x ∷ xs) zero d e known = refl
read_within (x ∷ xs) (suc k) d e known = read_within xs k d e (omega (arith, known))

pub read_behind : (ends : List ℕ) (d : ℕ) → slice_index_or ends (length ends) d ≡ d
read_behind [] d = refl
read_behind (x ∷ xs) d = read_behind xs d

pub end_is : (ends : List ℕ) (total n k : ℕ) → LeadTo 0 ends total → IsBatchOf ends n k → end_at n ends ≡ end_of ends k
end_is ends total n k lead here = end_here 0 ends total n k lead here.known here.begun here.before ∙ elim (bool_cases (nat_lt k (length ends))) [
  | inl ahead ↦ read_within ends k n (batch_start ends k) (grind (arith, common_steps))
  | inr shut ↦
      let known = here.known in
      let last : k ≡ length ends = grind (arith, common_steps) in
      ap (λ d. slice_index_or ends k d) (here.behind last)
]

-- there is a batch in which a place stands
there_from : (before : ℕ) (ends : List ℕ) (total n : ℕ) → LeadTo before ends total → before ≤ n → n < total →
    (k : ℕ) × ((k < length ends) × ((from_start before ends k ≤ n) × (n < slice_index_or ends k 0)))
there_from before [] total n lead begun short = absurd (omega (arith, lead, begun, short))
there_from before (x ∷ xs) total n lead begun short = elim (bool_cases (nat_lt n x)) [
  | inl first ↦ (0, (omega arith, (omega (arith, begun), grind (arith, common_steps))))
  | inr later ↦
      let past : x ≤ n = grind (arith, common_steps) in
      let rest = there_from x xs total n lead.2 past short in
      let known = rest.1.0 in
      (suc rest.0, (omega (arith, known), (rest.1.1.0, rest.1.1.1)))
]

pub batch_there : (ends : List ℕ) (total n : ℕ) → LeadTo 0 ends total → n < total → (k : ℕ) × (IsBatchOf ends n k × (k < length ends))
batch_there ends total n lead short =
    let found = there_from 0 ends total n lead (omega arith) short in
    let known = found.1.0 in (
      found.0,
      (
        record {
          known = omega (arith, known);
          begun = found.1.1.0;
          before = λ _. found.1.1.1;
          behind = λ last. absurd (omega (arith, known, last));
        },
        known,
      ),
    )

-- ---- where a batch begins and ends

pub ends_within : (ends : List ℕ) (total k : ℕ) → LeadTo 0 ends total → k ≤ length ends → end_of ends k ≤ total
ends_within ends total k lead known = elim (bool_cases (nat_lt k (length ends))) [
  | inl ahead ↦
      let below : k < length ends = grind (arith, common_steps) in
      let is = read_within ends k (batch_start ends k) 0 below in
      let within = end_below 0 ends total k lead below in
      omega (arith, is, within)
  | inr shut ↦
      let last : k ≡ length ends = grind (arith, common_steps) in
      let is : end_of ends k ≡ batch_start ends k = ap (λ m. slice_index_or ends m (batch_start ends k)) last ∙ read_behind ends (batch_start ends k) in
      let within = start_total 0 ends total k lead known in
      omega (arith, is, within)
]

pub start_before_end : (ends : List ℕ) (total k : ℕ) → LeadTo 0 ends total → k ≤ length ends → batch_start ends k ≤ end_of ends k
start_before_end ends total k lead known = grind (arith, bool_cases, common_steps, read_within, end_behind, read_behind)

-- a batch that is not behind the last ends behind where it begins
pub start_ahead : (ends : List ℕ) (total k : ℕ) → LeadTo 0 ends total → k < length ends → batch_start ends k < slice_index_or ends k 0
start_ahead ends total k lead known = end_behind 0 ends total k lead known

pub start_within : (ends : List ℕ) (total k : ℕ) → LeadTo 0 ends total → k ≤ length ends → batch_start ends k ≤ total
start_within ends total k lead known = start_total 0 ends total k lead known

pub last_start : (ends : List ℕ) (total : ℕ) → LeadTo 0 ends total → batch_start ends (length ends) ≡ total
last_start ends total lead = end_total 0 ends total lead

-- the end of a batch that is not the last
pub end_read : (ends : List ℕ) (k : ℕ) → k < length ends → end_of ends k ≡ slice_index_or ends k 0
end_read ends k below = read_within ends k (batch_start ends k) 0 below

-- the next batch begins there
pub next_start : (ends : List ℕ) (k : ℕ) → k < length ends → batch_start ends (k + 1) ≡ end_of ends k
next_start ends k below = grind (arith, end_read)

-- how many jobs a batch has
pub part_length : (from end : ℕ) (jobs : List Job) → from ≤ end → end ≤ length jobs → from + length (part from end jobs) ≡ end
part_length from end jobs begins within = grind (arith, length-take-le, length-drop)

-- a slice of the jobs is a part
pub slice_part : (from end : ℕ) (jobs : List Job) → from ≤ end → take (end - from) (drop from jobs) ≡ part from end jobs
slice_part from end jobs begins =
    let whole : from + (end - from) ≡ end = omega (arith, begins) in
    sym (drop-take from (end - from) jobs) ∙ ap (λ n. drop from (take n jobs)) whole

-- ---- the first batches among the ends

pub start_first : (before : ℕ) (ends : List ℕ) (k i : ℕ) → i ≤ k → k ≤ length ends → from_start before (take k ends) i ≡ from_start before ends i
start_first before ends k zero within known = refl
start_first before [] k (suc i) within known = absurd (omega (arith, within, known))
start_first before (x ∷ xs) zero (suc i) within known = absurd (omega (arith, within))
start_first before (x ∷ xs) (suc k) (suc i) within known = start_first x xs k i (omega (arith, within)) (omega (arith, known))

pub start_rises : (before : ℕ) (ends : List ℕ) (total i k : ℕ) → LeadTo before ends total → i ≤ k → k ≤ length ends →
    from_start before ends i ≤ from_start before ends k
start_rises before ends total zero k lead within known = start_behind before ends total k lead known
start_rises before ends total (suc i) zero lead within known = absurd (omega (arith, within))
start_rises before [] total (suc i) (suc k) lead within known = absurd (omega (arith, known))
start_rises before (x ∷ xs) total (suc i) (suc k) lead within known = start_rises x xs total i k lead.2 (omega (arith, within)) (omega (arith, known))

pub first_ends : (ends : List ℕ) (total k : ℕ) → LeadTo 0 ends total → k ≤ length ends → EndAt (take k ends) (batch_start ends k)
first_ends ends total k lead known =
    let size = length-take-le k ends known in
    record {
      within = λ i below.
          let next : i < k = omega (arith, below, size) in
          let same = start_first 0 ends k (suc i) (omega (arith, next)) known in
          let rises = start_rises 0 ends total (suc i) k lead (omega (arith, next)) known in
          omega (arith, same, rises);
      closed = ap (λ m. batch_start (take k ends) m) size ∙ start_first 0 ends k k (omega arith) known;
    }

-- ---- lanes

pub rest_of_lanes : (lanes n : ℕ) (jobs : List Job) → AreOfLanes lanes jobs → AreOfLanes lanes (drop n jobs)
rest_of_lanes lanes zero jobs of_lanes = of_lanes
rest_of_lanes lanes (suc n) [] of_lanes = tt
rest_of_lanes lanes (suc n) (j ∷ js) of_lanes = rest_of_lanes lanes n js of_lanes.1

-- no job of a part is of a lane past the number of lanes
pub part_none : (lanes lane from end : ℕ) (jobs : List Job) → AreOfLanes lanes jobs → lanes ≤ lane → lane_jobs lane (part from end jobs) ≡ []
part_none lanes lane from end jobs of_lanes past = grind (arith, none_of_lanes, rest_of_lanes, first_of_lanes)
