-- What an audit has taken so far answers a part of the jobs.
use Rattle.std.proofs.Common.{◌≡◌, ℕ, zero, suc, ◌+◌, ◌<◌, ◌≤◌, inl, inr, nat_eq, nat_lt, List, [], ◌∷◌, length, take, drop, map, refl}
use Rattle.std.proofs.Common.{sym, ap, subst, ◌∙◌, arith}
use Rattle.std.proofs.lemmas.Grind.{common_steps}
use Rattle.std.proofs.lemmas.List.{length-map, length-take-le, take-take, take_all}
use Rattle.basics.proofs.Booleans.{bool_cases, eq_back}
use Rattle.wf_board.specs.Laws.Histories.{BatchRests, EachAfter, RestsFrom, batch_end, batch_jobs, batch_start, job_of_entry, lane_jobs}
use Rattle.wf_desk.specs.Desks.{served_jobs}
use Rattle.wf_desk.specs.Laws.Parts.{FillsPart, lane_answered, lane_asked}
use Rattle.transcript_audit.specs.Auditor.{AuditShape}
use Rattle.transcript_audit.specs.Keeping.{IsSoundAudit, jobs_in}
use Rattle.transcript_audit.proofs.Batches.{end_read, next_start, start_first, start_rises}
use Rattle.transcript_audit.proofs.Sound.{within_end, within_jobs}

-- a part that lies within the first items
part_within : {A : Type 0} (s e n : ℕ) (xs : List A) → e ≤ n → drop s (take e (take n xs)) ≡ drop s (take e xs)
part_within s e n xs within = ap (drop s) (take-take e n xs within)

-- and one behind all of them
part_past : {A : Type 0} (s e : ℕ) (xs : List A) → length xs ≤ s → drop s (take e xs) ≡ []
part_past s zero xs past = drop_none s
  where
    drop_none : {A : Type 0} (n : ℕ) → drop {A = A} n [] ≡ []
    drop_none zero = refl
    drop_none (suc n) = refl
part_past zero (suc e) [] past = refl
part_past (suc s) (suc e) [] past = refl
part_past zero (suc e) (x ∷ xs) past = absurd (omega (arith, past))
part_past (suc s) (suc e) (x ∷ xs) past = part_past s e xs (omega (arith, past))

pub map_first : {A B : Type 0} (f : A → B) (n : ℕ) (xs : List A) → map f (take n xs) ≡ take n (map f xs)
map_first f zero xs = refl
map_first f (suc n) [] = refl
map_first f (suc n) (x ∷ xs) = ap (λ ys. f x ∷ ys) (map_first f n xs)

pub map_rest : {A B : Type 0} (f : A → B) (n : ℕ) (xs : List A) → map f (drop n xs) ≡ drop n (map f xs)
map_rest f zero xs = refl
map_rest f (suc n) [] = refl
map_rest f (suc n) (x ∷ xs) = map_rest f n xs

-- the ends of a batch that is not the last of the first k
end_first : (ends : List ℕ) (k i : ℕ) → i < k → batch_end (take k ends) i ≡ batch_end ends i
end_first [] zero i before = refl
end_first [] (suc k) i before = refl
end_first (x ∷ xs) zero i before = absurd (omega (arith, before))
end_first (x ∷ xs) (suc k) zero before = refl
end_first (x ∷ xs) (suc k) (suc i) before = end_first xs k i (omega (arith, before))

-- ---- a batch before the present one

record IsBefore (a : AuditShape) (k i : ℕ) : Type 0 where
  pub starts : batch_start (take k a.batch_ends) i ≡ batch_start a.batch_ends i
  pub stops : batch_end (take k a.batch_ends) i ≡ batch_end a.batch_ends i
  pub within : batch_end a.batch_ends i ≤ batch_start a.batch_ends k
  pub among : i < length (take k a.batch_ends)

is_before : (a : AuditShape) (k i : ℕ) → IsSoundAudit a k → i < k → IsBefore a k i
is_before a k i sound before =
    let known = sound.here.known in
    let size = length-take-le k a.batch_ends known in
    record {
      starts = start_first 0 a.batch_ends k i (omega (arith, before)) known;
      stops = end_first a.batch_ends k i before;
      within =
          let next = next_start a.batch_ends i (omega (arith, before, known)) in
          let read = end_read a.batch_ends i (omega (arith, before, known)) in
          let rises = start_rises 0 a.batch_ends (length a.jobs) (i + 1) k sound.order.ends (omega (arith, before)) known in
          omega (arith, next, read, rises);
      among = omega (arith, size, before);
    }

-- its entries and jobs stand within the first ones
part_before : {A : Type 0} (a : AuditShape) (k i : ℕ) (xs : List A) → IsBefore a k i →
    drop (batch_start (take k a.batch_ends) i) (take (batch_end (take k a.batch_ends) i) (take (batch_start a.batch_ends k) xs))
    ≡ drop (batch_start a.batch_ends i) (take (batch_end a.batch_ends i) xs)
part_before a k i xs is = grind (arith, part_within)

before_filled : (a : AuditShape) (k i lane : ℕ) → IsSoundAudit a k → i < k → lane_answered a.entries a.batch_ends i lane ≡ lane_asked a.jobs a.batch_ends i lane
before_filled a k i lane sound before =
    let is = is_before a k i sound before in
    let start = batch_start a.batch_ends k in
    sym (ap (lane_jobs lane)
    (ap (batch_jobs (take k a.batch_ends) i) (map_first job_of_entry start a.entries) ∙ part_before a k i (map job_of_entry a.entries) is))
    ∙ sound.filled.batches i is.among lane
    ∙ ap (lane_jobs lane) (part_before a k i a.jobs is)

before_rests : (a : AuditShape) (k i : ℕ) → IsSoundAudit a k → i < k → BatchRests a.batch_ends i a.entries
before_rests a k i sound before =
    let is = is_before a k i sound before in
    let start = batch_start a.batch_ends k in
    let s = batch_start a.batch_ends i in
    let known = sound.here.known in
    let rises : s ≤ start = start_rises 0 a.batch_ends (length a.jobs) i k sound.order.ends (omega (arith, before)) known in
    let rests = sound.filled.rests i is.among in
    subst (λ es. EachAfter (RestsFrom s) es (drop s (take (batch_end a.batch_ends i) a.entries))) (take-take s start a.entries rises)
    (subst (λ es. EachAfter (RestsFrom s) (take s (take start a.entries)) es) (part_before a k i a.entries is)
    (subst (λ n. EachAfter (RestsFrom n) (take n (take start a.entries))
    (drop (batch_start (take k a.batch_ends) i) (take (batch_end (take k a.batch_ends) i) (take start a.entries)))) is.starts rests))

-- ---- the present batch

here_answered : (a : AuditShape) (k lane : ℕ) → IsSoundAudit a k → k < length a.batch_ends →
    lane_answered a.entries a.batch_ends k lane ≡ served_jobs (batch_start a.batch_ends k) a.entries lane
here_answered a k lane sound ahead = grind (arith, within_end, end_read, length-map, take_all, map_rest)

here_asked : (a : AuditShape) (k lane : ℕ) → k < length a.batch_ends → lane_asked a.jobs a.batch_ends k lane ≡ lane_jobs lane (jobs_in a.jobs a.batch_ends k)
here_asked a k lane ahead = ap (λ n. lane_jobs lane (drop (batch_start a.batch_ends k) (take n a.jobs))) (sym (end_read a.batch_ends k ahead))

here_front : (a : AuditShape) (k lane : ℕ) → IsSoundAudit a k → k < length a.batch_ends →
    lane_answered a.entries a.batch_ends k lane ≡ take (length (lane_answered a.entries a.batch_ends k lane)) (lane_asked a.jobs a.batch_ends k lane)
here_front a k lane sound ahead = rw (here_answered a k lane sound ahead, here_asked a k lane ahead) (sound.front lane)

here_rests : (a : AuditShape) (k : ℕ) → IsSoundAudit a k → k < length a.batch_ends → BatchRests a.batch_ends k a.entries
here_rests a k sound ahead = grind (arith, within_end, end_read, take_all)

-- ---- a batch behind it

past_start : (a : AuditShape) (k i : ℕ) → IsSoundAudit a k → k < i → i < length a.batch_ends → length a.entries ≤ batch_start a.batch_ends i
past_start a k i sound later known =
    let within = within_end a k sound in
    let next = next_start a.batch_ends k (omega (arith, later, known)) in
    let rises = start_rises 0 a.batch_ends (length a.jobs) (k + 1) i sound.order.ends (omega (arith, later)) (omega (arith, known)) in
    omega (arith, within, next, rises)

past_answered : (a : AuditShape) (k i lane : ℕ) → IsSoundAudit a k → k < i → i < length a.batch_ends → lane_answered a.entries a.batch_ends i lane ≡ []
past_answered a k i lane sound later known = grind (arith, past_start, length-map, part_past)

past_rests : (a : AuditShape) (k i : ℕ) → IsSoundAudit a k → k < i → i < length a.batch_ends → BatchRests a.batch_ends i a.entries
past_rests a k i sound later known = grind (arith, part_past, past_start)

-- ---- all

part_front : (a : AuditShape) (k i lane : ℕ) → IsSoundAudit a k → i < length a.batch_ends →
    lane_answered a.entries a.batch_ends i lane ≡ take (length (lane_answered a.entries a.batch_ends i lane)) (lane_asked a.jobs a.batch_ends i lane)
part_front a k i lane sound known = elim (bool_cases (nat_lt i k)) [
  | inl before ↦
      let same = before_filled a k i lane sound (grind (arith, common_steps)) in
      let asked = lane_asked a.jobs a.batch_ends i lane in
      subst (λ js. js ≡ take (length js) asked) (sym same) (sym (take_all (length asked) asked (omega arith)))
  | inr late ↦ elim (bool_cases (nat_eq i k)) [
    | inl here ↦ let same : k ≡ i = sym (eq_back i k here) in subst (λ n. n < length a.batch_ends → lane_answered a.entries a.batch_ends n lane ≡ take
        (length (lane_answered a.entries a.batch_ends n lane)) (lane_asked a.jobs a.batch_ends n lane)) same (here_front a k lane sound) known
    | inr other ↦
        let past : k < i = grind (arith, common_steps) in
        subst (λ js. js ≡ take (length js) (lane_asked a.jobs a.batch_ends i lane)) (sym (past_answered a k i lane sound past known)) refl
  ]
]

part_rests : (a : AuditShape) (k i : ℕ) → IsSoundAudit a k → i < length a.batch_ends → BatchRests a.batch_ends i a.entries
part_rests a k i sound known = elim (bool_cases (nat_lt i k)) [
  | inl before ↦ before_rests a k i sound (grind (arith, common_steps))
  | inr late ↦ elim (bool_cases (nat_eq i k)) [
    | inl here ↦ let same : k ≡ i = sym (eq_back i k here) in
        subst (λ n. n < length a.batch_ends → BatchRests a.batch_ends n a.entries) same (here_rests a k sound) known
    | inr other ↦ past_rests a k i sound (grind (arith, common_steps)) known
  ]
]

-- a batch that ends within the entries stands before the present one
part_whole : (a : AuditShape) (k i : ℕ) → IsSoundAudit a k → i < length a.batch_ends → batch_end a.batch_ends i ≤ length a.entries → i < k
part_whole a k i sound known within = elim (bool_cases (nat_lt i k)) [
  | inl before ↦ grind (arith, common_steps)
  | inr late ↦
      let here : k ≤ i = grind (arith, common_steps) in
      let short = sound.here.before (omega (arith, here, known)) in
      let read = next_start a.batch_ends i known in
      let first = next_start a.batch_ends k (omega (arith, here, known)) in
      let end_i = end_read a.batch_ends i known in
      let end_k = end_read a.batch_ends k (omega (arith, here, known)) in
      let rises = start_rises 0 a.batch_ends (length a.jobs) (k + 1) (i + 1) sound.order.ends (omega (arith, here)) (omega (arith, known)) in
      absurd (omega (arith, short, read, first, rises, within, end_i, end_k))
]

pub fills_part : (a : AuditShape) (k : ℕ) → IsSoundAudit a k → FillsPart a.entries a.jobs a.batch_ends
fills_part a k sound = grind (arith, within_jobs, part_front, before_filled, part_whole, part_rests)
