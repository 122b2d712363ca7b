-- The entries of a batch follow those before.
use Rattle.std.proofs.Common.{◌≡◌, ℕ, ◌+◌, ◌<◌, ◌≤◌, inl, inr, nat_lt, List, [], ◌∷◌, ◌++◌, length, take, drop, map, sym, ap, ◌∙◌, arith}
use Rattle.std.proofs.lemmas.Grind.{common_steps}
use Rattle.std.proofs.lemmas.List.{map-append, length-map, length-append, take-append-le, get_or_append_left}
use Rattle.std.proofs.Math.Seq.{drop-append_seam, take-length, get_or-append_seam}
use Rattle.basics.proofs.Booleans.{bool_cases}
use Rattle.wf_talk.specs.declared.entry.Entry.{Entry}
use Rattle.wf_talk.specs.declared.job.Job.{Job}
use Rattle.wf_board.specs.Laws.Histories.{BatchRests, FillsJobs, batch_end, batch_jobs, batch_start, job_of_entry, lane_jobs}
use Rattle.wf_desk.specs.BatchLaws.{AnswersNext, EndAt}

pub start_before : (ends : List ℕ) (x k : ℕ) → k < length ends + 1 → batch_start (ends ++ x ∷ []) k ≡ batch_start ends k
start_before ends x k lt = get_or_append_left (0 ∷ ends) (x ∷ []) 0 k (omega (arith, lt))

pub end_before : (ends : List ℕ) (x k : ℕ) → k < length ends → batch_end (ends ++ x ∷ []) k ≡ batch_end ends k
end_before ends x k lt = get_or_append_left ends (x ∷ []) 0 k lt

pub end_last : (ends : List ℕ) (x : ℕ) → batch_end (ends ++ x ∷ []) (length ends) ≡ x
end_last ends x = get_or-append_seam ends x [] 0

start_within : (ends : List ℕ) (count k : ℕ) → EndAt ends count → k < length ends → batch_start ends k ≤ count
start_within ends count k are lt = grind arith

part_old : {A : Type 0} (s e : ℕ) (xs ys : List A) → e ≤ length xs → drop s (take e (xs ++ ys)) ≡ drop s (take e xs)
part_old s e xs ys within = ap (drop s) (take-append-le e xs ys within)

part_new : {A : Type 0} (s e : ℕ) (xs ys : List A) → s ≡ length xs → e ≡ length xs + length ys → drop s (take e (xs ++ ys)) ≡ ys
part_new s e xs ys first size =
    ap (λ n. drop n (take e (xs ++ ys))) first ∙ ap (λ n. drop (length xs) (take n (xs ++ ys))) (size ∙ sym (length-append xs ys))
    ∙ ap (drop (length xs)) (take-length (xs ++ ys)) ∙ drop-append_seam xs ys

part_moved : {A : Type 0} (s t e f : ℕ) (xs : List A) → s ≡ t → e ≡ f → drop s (take e xs) ≡ drop t (take f xs)
part_moved s t e f xs same last = ap (λ n. drop n (take e xs)) same ∙ ap (λ n. drop t (take n xs)) last

entries_whole : (es : List Entry) (js : List Job) (ends : List ℕ) → FillsJobs es js ends → length (map job_of_entry es) ≡ length js
entries_whole es js ends fills = length-map es job_of_entry ∙ fills.whole

old_jobs : (es new : List Entry) (js more : List Job) (ends : List ℕ) (x k lane : ℕ) → FillsJobs es js ends → EndAt ends (length js) → k < length ends
    → lane_jobs lane (batch_jobs (ends ++ x ∷ []) k (map job_of_entry (es ++ new))) ≡ lane_jobs lane (batch_jobs (ends ++ x ∷ []) k (js ++ more))
old_jobs es new js more ends x k lane fills are lt =
    let s = batch_start ends k in
    let e = batch_end ends k in
    let ys = map job_of_entry es in
    let within = are.within k lt in
    let size = entries_whole es js ends fills in
    let begins = start_before ends x k (omega (arith, lt)) in
    let stops = end_before ends x k lt in
    ap (lane_jobs lane) (part_moved _ s _ e (map job_of_entry (es ++ new)) begins stops ∙ ap (λ zs. drop s (take e zs)) (map-append job_of_entry es new)
    ∙ part_old s e ys (map job_of_entry new) (omega (arith, within, size)))
    ∙ fills.batches k lt lane
    ∙ sym (ap (lane_jobs lane) (part_moved _ s _ e (js ++ more) begins stops ∙ part_old s e js more within))

new_jobs : (es new : List Entry) (js more : List Job) (ends : List ℕ) (lane : ℕ) → AnswersNext es new js more ends
    → lane_jobs lane (batch_jobs (ends ++ (length js + length more) ∷ []) (length ends) (map job_of_entry (es ++ new)))
    ≡ lane_jobs lane (batch_jobs (ends ++ (length js + length more) ∷ []) (length ends) (js ++ more))
new_jobs es new js more ends lane next = grind (arith, length-map, start_before, end_last, map-append, part_new)

old_rests : (es new : List Entry) (js : List Job) (ends : List ℕ) (x k : ℕ) → FillsJobs es js ends → EndAt ends (length js) → k < length ends
    → BatchRests (ends ++ x ∷ []) k (es ++ new)
old_rests es new js ends x k fills are lt = grind (arith, start_before, end_before, start_within, take-append-le, part_moved, part_old)

new_rests : (es new : List Entry) (js more : List Job) (ends : List ℕ) → AnswersNext es new js more ends
    → BatchRests (ends ++ (length js + length more) ∷ []) (length ends) (es ++ new)
new_rests es new js more ends next = grind (arith, start_before, end_last, take-append-le, take-length, part_new)

-- with one more batch, whose entries answer its jobs, the entries fill the jobs
pub batch_fills : (es new : List Entry) (js more : List Job) (ends : List ℕ) → AnswersNext es new js more ends
    → FillsJobs (es ++ new) (js ++ more) (ends ++ (length js + length more) ∷ [])
batch_fills es new js more ends next = record {
  whole = omega (arith, length-append es new, length-append js more, next.fills.whole, next.answers.whole);
  batches = λ k lt lane. elim (bool_cases (nat_lt k (length ends))) [
    | inl old ↦ old_jobs es new js more ends (length js + length more) k lane next.fills next.at_end (grind (arith, common_steps))
    | inr late ↦
        let last : k ≡ length ends = grind (arith, common_steps) in
        rw last (new_jobs es new js more ends lane next)
  ];
  rests = λ k lt. elim (bool_cases (nat_lt k (length ends))) [
    | inl old ↦ old_rests es new js ends (length js + length more) k next.fills next.at_end (grind (arith, common_steps))
    | inr late ↦
        let last : k ≡ length ends = grind (arith, common_steps) in
        rw last (new_rests es new js more ends next)
  ];
}
