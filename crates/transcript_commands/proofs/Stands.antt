-- The batch in which a session stopped, and those before it.
use Rattle.transcript_commands.proofs.Common.{◌≡◌, ℕ, suc, ◌+◌, ◌<◌, ◌≤◌, nat_lt, true, false, inl, inr, List, [], ◌∷◌, ◌++◌, length, take, slice_index_or}
use Rattle.transcript_commands.proofs.Common.{refl, sym, ap, subst, ◌∙◌, arith, ◌⊎◌, le-ltb, lt-ltb, length-take-le, bool_cases, Entry, Job, batch_end}
use Rattle.transcript_commands.proofs.Common.{batch_start, AreOfLanes, DeskShape, jobs_told, FillsPart, LeadTo, end_at, jobs_between, start_at, GoesOnAt}
use Rattle.transcript_commands.proofs.Common.{Session, StandsAt, ends_to}
use Rattle.std.proofs.Common.{nat_le, drop}
use Rattle.std.proofs.lemmas.List.{take-append-drop, take-take, take_more}
use Rattle.basics.proofs.Booleans.{le_back, le_yes}
use Rattle.wf_board.specs.Laws.Histories.{EachAfter, FillsJobs, RestsFrom, batch_jobs}
use Rattle.wf_desk.specs.BatchLaws.{EndAt}
use Rattle.line_reader.specs.Cutter.{ends_after}
use Rattle.transcript_audit.proofs.Batches.{first_ends, part_length, start_first as front_start, start_rises}
use Rattle.transcript_audit.proofs.Parts.{map_first}
use Rattle.transcript_commands.proofs.Rests.{answers_part, bounds_order, bounds_within, lanes_between}

-- ---- how many ends are not behind a place

le_no : (m n : ℕ) → n < m → nat_le m n ≡ false
le_no m n h = grind arith

le_back_no : (m n : ℕ) → nat_le m n ≡ false → n < m
le_back_no m n h = grind arith

-- the first of the ends behind a place is behind it
none_to : (x : ℕ) (ends : List ℕ) (total : ℕ) → LeadTo x ends total → ends_to x ends ≡ 0
none_to x [] total lead = refl
none_to x (y ∷ ys) total lead = grind (arith, le_no)

-- where a batch begins or ends
record IsBound (before : ℕ) (ends : List ℕ) (place count : ℕ) : Type 0 where
  known : count ≤ length ends
  there : slice_index_or (before ∷ ends) count 0 ≡ place
  above : before ≤ place

bound_more : (before x : ℕ) (xs : List ℕ) (p c : ℕ) → before ≤ x → IsBound x xs p c → IsBound before (x ∷ xs) p (suc c)
bound_more before x xs p c first rest = grind arith

to_more : (x : ℕ) (xs : List ℕ) (p : ℕ) → x ≤ p → ends_to p (x ∷ xs) ≡ suc (ends_to p xs)
to_more x xs p le = let here = le_yes x p le in rw here refl

to_none : (x : ℕ) (xs : List ℕ) (p : ℕ) → p < x → ends_to p (x ∷ xs) ≡ 0
to_none x xs p lt = let here = le_no x p lt in rw here refl

start_past : (before x n : ℕ) (xs : List ℕ) → x ≤ n → start_at before n (x ∷ xs) ≡ start_at x n xs
start_past before x n xs le = let here = le_yes x n le in rw here refl

start_first : (before x n : ℕ) (xs : List ℕ) → n < x → start_at before n (x ∷ xs) ≡ before
start_first before x n xs lt = let here = le_no x n lt in rw here refl

stop_past : (x n : ℕ) (xs : List ℕ) → x ≤ n → end_at n (x ∷ xs) ≡ end_at n xs
stop_past x n xs le = let here = le_yes x n le in rw here refl

stop_first : (x n : ℕ) (xs : List ℕ) → n < x → end_at n (x ∷ xs) ≡ x
stop_first x n xs lt = let here = le_no x n lt in rw here refl

-- so many ends are up to the place where the batches before one end
starts_from : (before : ℕ) (ends : List ℕ) (total n : ℕ) → LeadTo before ends total → before ≤ n → n ≤ total →
    IsBound before ends (start_at before n ends) (ends_to (start_at before n ends) ends)
starts_from before [] total n lead begun within = record { known = omega arith; there = refl; above = omega arith }
starts_from before (x ∷ xs) total n lead begun within =
    let first = lead.0 in
    elim (bool_cases (nat_le x n)) [
      | inl past ↦
          let le = le_back x n past in
          let rest = starts_from x xs total n lead.2 le within in
          subst (λ p. IsBound before (x ∷ xs) p (ends_to p (x ∷ xs))) (sym (start_past before x n xs le))
          (subst (λ c. IsBound before (x ∷ xs) (start_at x n xs) c) (sym (to_more x xs (start_at x n xs) rest.above))
          (bound_more before x xs (start_at x n xs) (ends_to (start_at x n xs) xs) (omega (arith, first)) rest))
      | inr ahead ↦
          let lt = le_back_no x n ahead in
          subst (λ p. IsBound before (x ∷ xs) p (ends_to p (x ∷ xs))) (sym (start_first before x n xs lt))
          (subst (λ c. IsBound before (x ∷ xs) before c) (sym (to_none x xs before first))
          (record { known = omega arith; there = refl; above = omega arith }))
    ]

stops_from : (before : ℕ) (ends : List ℕ) (total n : ℕ) → LeadTo before ends total → before ≤ n → n ≤ total →
    IsBound before ends (end_at n ends) (ends_to (end_at n ends) ends)
stops_from before [] total n lead begun within = record { known = omega arith; there = omega (arith, lead, begun, within); above = begun }
stops_from before (x ∷ xs) total n lead begun within =
    let first = lead.0 in
    elim (bool_cases (nat_le x n)) [
      | inl past ↦
          let le = le_back x n past in
          let rest = stops_from x xs total n lead.2 le within in
          subst (λ p. IsBound before (x ∷ xs) p (ends_to p (x ∷ xs))) (sym (stop_past x n xs le))
          (subst (λ c. IsBound before (x ∷ xs) (end_at n xs) c) (sym (to_more x xs (end_at n xs) rest.above))
          (bound_more before x xs (end_at n xs) (ends_to (end_at n xs) xs) (omega (arith, first)) rest))
      | inr ahead ↦
          let lt = le_back_no x n ahead in
          subst (λ p. IsBound before (x ∷ xs) p (ends_to p (x ∷ xs))) (sym (stop_first x n xs lt))
          (subst (λ c. IsBound before (x ∷ xs) x c) (sym (to_more x xs x (omega arith) ∙ ap suc (none_to x xs total lead.2)))
          (record { known = omega arith; there = refl; above = omega (arith, first) }))
    ]

-- a batch has no job, or its end is the next one behind where it begins
abbrev IsNextEnd : (ends : List ℕ) (start stop : ℕ) → Type 0
IsNextEnd ends start stop = (start ≡ stop) ⊎ ((start < stop) × (ends_to stop ends ≡ suc (ends_to start ends)))

next_end : (before : ℕ) (ends : List ℕ) (total n : ℕ) → LeadTo before ends total → before ≤ n → n ≤ total →
    IsNextEnd ends (start_at before n ends) (end_at n ends)
next_end before [] total n lead begun within = inl (omega (arith, lead, begun, within))
next_end before (x ∷ xs) total n lead begun within =
    let first = lead.0 in
    elim (bool_cases (nat_le x n)) [
      | inl past ↦
          let le = le_back x n past in
          let above = (starts_from x xs total n lead.2 le within).above in
          let over = (stops_from x xs total n lead.2 le within).above in
          let start = start_at x n xs in
          let stop = end_at n xs in
          subst (λ p. IsNextEnd (x ∷ xs) p (end_at n (x ∷ xs))) (sym (start_past before x n xs le))
          (subst (λ q. IsNextEnd (x ∷ xs) start q) (sym (stop_past x n xs le))
          (elim (next_end x xs total n lead.2 le within) [
            | inl same ↦ inl same
            | inr more ↦ inr (more.0, to_more x xs stop over ∙ ap suc (more.1 ∙ sym (to_more x xs start above)))
          ]))
      | inr ahead ↦
          let lt = le_back_no x n ahead in
          subst (λ p. IsNextEnd (x ∷ xs) p (end_at n (x ∷ xs))) (sym (start_first before x n xs lt))
          (subst (λ q. IsNextEnd (x ∷ xs) before q) (sym (stop_first x n xs lt))
          (inr (first, to_more x xs x (omega arith) ∙ ap suc (none_to x xs total lead.2 ∙ sym (to_none x xs before first)))))
    ]

-- ---- the batches before

-- a batch before another one is the same among those before that one
record IsEarlier (ends : List ℕ) (k i : ℕ) : Type 0 where
  start : batch_start (take k ends) i ≡ batch_start ends i
  stop : batch_end (take k ends) i ≡ batch_end ends i
  begun : batch_start ends i ≤ batch_start ends k
  within : batch_end ends i ≤ batch_start ends k

is_earlier : (ends : List ℕ) (total k i : ℕ) → LeadTo 0 ends total → i < k → k ≤ length ends → IsEarlier ends k i
is_earlier ends total k i lead below known = record {
  start = front_start 0 ends k i (omega (arith, below)) known;
  stop = front_start 0 ends k (suc i) (omega (arith, below)) known;
  begun = start_rises 0 ends total i k lead (omega (arith, below)) known;
  within = start_rises 0 ends total (suc i) k lead (omega (arith, below)) known;
}

front_batch : (ends : List ℕ) (k i : ℕ) (xs : List Job) → IsEarlier ends k i → batch_jobs (take k ends) i (take (batch_start ends k) xs) ≡ batch_jobs ends i xs
front_batch ends k i xs e = grind (arith, take-take)

front_rests : (s s2 e e2 from : ℕ) (es : List Entry) → s2 ≡ s → e2 ≡ e → s ≤ from → e ≤ from → EachAfter (RestsFrom s) (take s es) (drop s (take e es)) →
    EachAfter (RestsFrom s2) (take s2 (take from es)) (drop s2 (take e2 (take from es)))
front_rests s s2 e e2 from es is_s is_e le_s le_e rests = rw (is_s, is_e) (rw (take-take s from es le_s, take-take e from es le_e) rests)

-- the entries before a batch fill the jobs before it
earlier_filled : (es : List Entry) (jobs : List Job) (ends : List ℕ) (k : ℕ) → LeadTo 0 ends (length jobs) → FillsPart es jobs ends → k ≤ length ends →
    batch_start ends k ≤ length es →
    FillsJobs (take (batch_start ends k) es) (take (batch_start ends k) jobs) (take k ends)
earlier_filled es jobs ends k lead part known begun = grind (arith, length-take-le, is_earlier, map_first, front_batch, front_rests)

-- ---- where the entries stop

-- the ends up to that of the batch in which they stop
ends_here : (ends : List ℕ) (jobs : List Job) (n : ℕ) → LeadTo 0 ends (length jobs) → n ≤ length jobs →
    take (ends_to (end_at n ends) ends) ends
    ≡ ends_after (take (ends_to (start_at 0 n ends) ends) ends) (length (take (start_at 0 n ends) jobs)) (jobs_between (start_at 0 n ends) (end_at n ends) jobs)
ends_here ends jobs n lead within =
    let from = start_at 0 n ends in
    let stop = end_at n ends in
    let order = bounds_order ends (length jobs) n lead within in
    let inside = bounds_within ends (length jobs) n lead within in
    let js = jobs_between from stop jobs in
    let size = part_length from stop jobs order inside in
    let first = length-take-le from jobs (omega (arith, order, inside)) in
    elim (next_end 0 ends (length jobs) n lead (omega arith) within) [
      | inl same ↦
          let none : nat_lt 0 (length js) ≡ false = le-ltb 0 (length js) (omega (arith, size, same)) in
          rw none (ap (λ p. take (ends_to p ends) ends) (sym same))
      | inr more ↦
          let above = more.0 in
          let some : nat_lt 0 (length js) ≡ true = lt-ltb 0 (length js) (omega (arith, size, above)) in
          let last = stops_from 0 ends (length jobs) n lead (omega arith) within in
          let k = ends_to from ends in
          let next : ends_to stop ends ≡ k + 1 = more.1 ∙ omega arith in
          let known = last.known in
          let lt : k < length ends = omega (arith, known, next) in
          let there : slice_index_or ends k 0 ≡ stop = ap (λ m. slice_index_or (0 ∷ ends) m 0) (sym more.1) ∙ last.there in
          rw some (ap (λ m. take m ends) next ∙ take_more ends k 0 lt ∙ ap (λ x. take k ends ++ x ∷ []) (there ∙ omega (arith, size, first)))
    ]

pub jobs_here : (from stop : ℕ) (jobs : List Job) → from ≤ stop → take stop jobs ≡ take from jobs ++ jobs_between from stop jobs
jobs_here from stop jobs order = sym (take-append-drop from (take stop jobs)) ∙ ap (λ js. js ++ jobs_between from stop jobs) (take-take from stop jobs order)

stands_here : (es : List Entry) (jobs : List Job) (ends : List ℕ) → LeadTo 0 ends (length jobs) → FillsPart es jobs ends →
    StandsAt es (start_at 0 (length es) ends) (jobs_between (start_at 0 (length es) ends) (end_at (length es) ends) jobs) (take (end_at (length es) ends) jobs)
    (take (ends_to (end_at (length es) ends) ends) ends)
stands_here es jobs ends lead part =
    let n = length es in
    let from = start_at 0 n ends in
    let few = part.few in
    let first = starts_from 0 ends (length jobs) n lead (omega arith) few in
    let k = ends_to from ends in
    let begun = (answers_part es jobs ends lead part).begun in
    let same : batch_start ends k ≡ from = first.there in
    record {
      earlier_jobs = take from jobs;
      earlier_ends = take k ends;
      begun = begun;
      fills = subst (λ m. FillsJobs (take m es) (take m jobs) (take k ends)) same
          (earlier_filled es jobs ends k lead part first.known (omega (arith, same, begun)));
      at_end = subst (EndAt (take k ends)) (same ∙ sym (length-take-le from jobs (omega (arith, begun, few))))
          (first_ends ends (length jobs) k lead first.known);
      all_jobs = jobs_here from (end_at n ends) jobs (bounds_order ends (length jobs) n lead few);
      all_ends = ends_here ends jobs n lead few;
    }

pub stands : (s : Session) (es : List Entry) (next : ℕ) (d : DeskShape) → LeadTo 0 s.batch_ends (length s.jobs) → FillsPart es s.jobs s.batch_ends →
    GoesOnAt s es next d →
    StandsAt d.entries d.start d.jobs (take next s.jobs) (take (ends_to next s.batch_ends) s.batch_ends)
stands s es next d lead part goes =
    let jobs = s.jobs in
    let ends = s.batch_ends in
    subst (λ xs. StandsAt xs d.start d.jobs (take next jobs) (take (ends_to next ends) ends)) (sym goes.entries)
    (subst (λ js. StandsAt es d.start js (take next jobs) (take (ends_to next ends) ends)) (sym goes.jobs)
    (subst (λ m. StandsAt es m (jobs_between m next jobs) (take next jobs) (take (ends_to next ends) ends)) (sym goes.start)
    (subst (λ e. StandsAt es (start_at 0 (length es) ends) (jobs_between (start_at 0 (length es) ends) e jobs) (take e jobs) (take (ends_to e ends) ends))
    (sym goes.next)
    (stands_here es jobs ends lead part))))

-- the batches up to the place where the batch ends
pub record ReachesTo (s : Session) (next : ℕ) : Type 0 where
  pub known : ends_to next s.batch_ends ≤ length s.batch_ends
  pub there : batch_start s.batch_ends (ends_to next s.batch_ends) ≡ next
  pub within : next ≤ length s.jobs

pub reaches : (s : Session) (es : List Entry) (next : ℕ) (d : DeskShape) → LeadTo 0 s.batch_ends (length s.jobs) → FillsPart es s.jobs s.batch_ends →
    GoesOnAt s es next d → ReachesTo s next
reaches s es next d lead part goes =
    let last = stops_from 0 s.batch_ends (length s.jobs) (length es) lead (omega arith) part.few in
    subst (ReachesTo s) (sym goes.next)
    (record { known = last.known; there = last.there; within = bounds_within s.batch_ends (length s.jobs) (length es) lead part.few })

pub desk_lanes : (s : Session) (es : List Entry) (next : ℕ) (d : DeskShape) → AreOfLanes s.lanes s.jobs → GoesOnAt s es next d → AreOfLanes s.lanes d.jobs
desk_lanes s es next d of_lanes goes = subst (AreOfLanes s.lanes) (sym goes.jobs) (lanes_between s.lanes d.start next s.jobs of_lanes)

-- the jobs that the desk was given are those up to the end of its batch
pub told_jobs : (s : Session) (es : List Entry) (next : ℕ) (d : DeskShape) → LeadTo 0 s.batch_ends (length s.jobs) → FillsPart es s.jobs s.batch_ends →
    GoesOnAt s es next d → jobs_told d ≡ take next s.jobs
told_jobs s es next d lead part goes =
    let order = bounds_order s.batch_ends (length s.jobs) (length es) lead part.few in
    let start = goes.start in
    let stop = goes.next in
    (λ i. goes.earlier i ++ goes.jobs i) ∙ sym (jobs_here d.start next s.jobs (omega (arith, order, start, stop)))
