-- What a caller may rest on of every trial.
use Rattle.std.proofs.Common.{◌≡◌, ℕ, zero, suc, ◌+◌, ◌*◌, ◌-◌, ◌/◌, ◌%◌, ◌<◌, ◌≤◌, Bool, true, false, List, [], ◌∷◌, ◌++◌, map, length, slice_index_or}
use Rattle.std.proofs.Common.{if◌then◌else◌, ◌⊎◌, inl, inr, nat_lt, refl, sym, ap, ◌∙◌, map-id, length-append, arith}
use Rattle.std.specs.List.{range_with_len}
use Rattle.std.proofs.lemmas.List.{map-append, get_or_append_left}
use Rattle.std.proofs.lemmas.List.Elements.{All-append, All-cons, All-nil}
use Rattle.std.proofs.lemmas.List.FromFn.{get_or-map-range_with_len, length-map-range_with_len, map-range_with_len_more}
use Rattle.std.proofs.Math.Seq.{get_or-append_seam}
use Rattle.basics.proofs.Booleans.{bool_cases, lt_back, lt_back_no}
use Rattle.wf_names.specs.declared.limits.TheConstants.{BATCH_LINE_LIMIT}
use Rattle.wf_talk.specs.declared.job.Job.{Job}
use Rattle.wf_talk.specs.declared.request.Ask.TheVariants as ask
use Rattle.wf_talk.specs.declared.request.Request.{Request}
use Rattle.trial_command.specs.Draws.{after}
use Rattle.trial_command.specs.TrialLaws.{AreEndsOf, AreTrialJobs, AreTrials}
use Rattle.trial_command.specs.Jobs.{Made, batch_ends, begins_with_edit, job_count, openings, rounds, trial_jobs, turn, turns, with_edit, with_request}
use Rattle.trial_command.specs.Jobs.{with_round}
use Rattle.trial_command.proofs.Growing.{job_more, jobs_count}

lines_more : (n : ℕ) → range_with_len 0 (n + 1) ≡ range_with_len 0 n ++ n ∷ []
lines_more n = sym (map-id (range_with_len 0 (n + 1))) ∙ map-range_with_len_more (λ k. k) 0 n n (omega arith) ∙
    ap (λ xs. xs ++ n ∷ []) (map-id (range_with_len 0 n))

fits_none : AreTrialJobs []
fits_none = record { lines = refl; lanes = All-nil (λ j. j.lane < 4) }

fits_more : (jobs : List Job) (lane : ℕ) (what : Request) → lane < 4 → AreTrialJobs jobs → AreTrialJobs (with_request jobs lane what)
fits_more jobs lane what low fits =
    let j : Job = record { lane = lane; line = length jobs; ask = ask.Request what } in
    record {
      lines = map-append (λ j. j.line) jobs (j ∷ []) ∙ ap (λ xs. xs ++ length jobs ∷ []) fits.lines ∙
          sym (ap (range_with_len 0) (job_more jobs lane what) ∙ lines_more (length jobs));
      lanes = All-append (λ j. j.lane < 4) jobs (j ∷ []) fits.lanes (All-cons (λ j. j.lane < 4) j [] low (All-nil (λ j. j.lane < 4)));
    }

openings_fit : (n : ℕ) → AreTrialJobs (openings n)
unfolding openings
openings_fit zero = fits_none
openings_fit (suc n) = fits_more (openings n) 0 _ (omega arith) (openings_fit n)

turn_fits : (v c : ℕ) (m : Made) → AreTrialJobs m.jobs → AreTrialJobs (turn v c m).jobs
unfolding turn
turn_fits v c m fits = fits_more _ (c % 4) _ (omega arith) (fits_more m.jobs (c % 4) _ (omega arith) fits)

turns_fit : (v c : ℕ) (m : Made) → AreTrialJobs m.jobs → AreTrialJobs (turns v c m).jobs
unfolding turns
turns_fit v zero m fits = fits
turns_fit v (suc c) m fits = turn_fits v c (turns v c m) (turns_fit v c m fits)

edit_fits : (m : Made) → AreTrialJobs m.jobs → AreTrialJobs (with_edit m).jobs
unfolding with_edit
edit_fits m fits = fits_more m.jobs 0 _ (omega arith) fits

begun_fits : (m : Made) (b : Bool) → AreTrialJobs m.jobs → AreTrialJobs (if b then with_edit m else m).jobs
begun_fits m true fits = edit_fits m fits
begun_fits m false fits = fits

round_fits : (n v : ℕ) (m : Made) → AreTrialJobs m.jobs → AreTrialJobs (with_round n v m).jobs
unfolding with_round
round_fits n v m fits = turns_fit v n (if begins_with_edit v then with_edit m else m) (begun_fits m (begins_with_edit v) fits)

rounds_fit : (n v : ℕ) (m : Made) → AreTrialJobs m.jobs → AreTrialJobs (rounds n v m).jobs
unfolding rounds
rounds_fit n zero m fits = fits
rounds_fit n (suc v) m fits = round_fits n v (rounds n v m) (rounds_fit n v m fits)

trial_fits : (seed n : ℕ) → AreTrialJobs (trial_jobs seed n)
unfolding trial_jobs
trial_fits seed n = rounds_fit n 24 (record { state = after 60 seed; jobs = openings n }) (openings_fit n)

-- the ends of batches by their places
module _ (first count : ℕ) where
  -- how many batches end before the last, the first one aside
  abbrev full : ℕ
  full = (count - first - 1) / BATCH_LINE_LIMIT

  abbrev ends : List ℕ
  ends = batch_ends first count

  abbrev middle : List ℕ
  middle = map (λ b. first + BATCH_LINE_LIMIT * b) (range_with_len 1 full)

  middle_length : length middle ≡ full
  middle_length = length-map-range_with_len (λ b. first + BATCH_LINE_LIMIT * b) 1 full

  ends_length : length ends ≡ full + 2
  unfolding batch_ends
  ends_length = omega (arith, length-append middle (count ∷ []), middle_length)

  at : (k : ℕ) → k ≤ full → slice_index_or ends k 0 ≡ first + BATCH_LINE_LIMIT * k
  unfolding batch_ends
  at zero few = omega arith
  at (suc k) few =
      get_or_append_left middle (count ∷ []) 0 k (omega (arith, middle_length))
      ∙ get_or-map-range_with_len (λ b. first + BATCH_LINE_LIMIT * b) 1 full k (suc k) 0 (omega arith) (omega arith)

  at_end : (k : ℕ) → k ≡ full → slice_index_or ends (suc k) 0 ≡ count
  unfolding batch_ends
  at_end k e = ap (λ n. slice_index_or (middle ++ count ∷ []) n 0) (e ∙ sym middle_length) ∙ get_or-append_seam middle count [] 0

  -- a batch behind the first ends within the jobs or with them
  next_end : (k : ℕ) → k ≤ full → ((k < full) × (slice_index_or ends (suc k) 0 ≡ first + BATCH_LINE_LIMIT * suc k)) ⊎
      ((k ≡ full) × (slice_index_or ends (suc k) 0 ≡ count))
  next_end k few = elim (bool_cases (nat_lt k full)) [
    | inl below ↦ let lt = lt_back k full below in inl (lt, at (suc k) (omega arith))
    | inr past ↦ let last : k ≡ full = omega (arith, lt_back_no k full past) in inr (last, at_end k last)
  ]

  ascends : 1 ≤ first → first < count → (k : ℕ) → k < length ends → slice_index_or (0 ∷ ends) k 0 < slice_index_or ends k 0
  ascends some more zero lt = omega (arith, at 0 (omega arith))
  ascends some more (suc k) lt =
      let few : k ≤ full = omega (arith, ends_length) in
      let here = at k few in
      elim (next_end k few) [ inl inner ↦ omega (arith, here, inner.1) | inr last ↦ omega (arith, here, last.0, last.1) ]

  is_short : first ≤ BATCH_LINE_LIMIT → first < count → (k : ℕ) → k < length ends → slice_index_or ends k 0 ≤ slice_index_or (0 ∷ ends) k 0 + BATCH_LINE_LIMIT
  is_short few more zero lt = omega (arith, at 0 (omega arith))
  is_short few more (suc k) lt =
      let within : k ≤ full = omega (arith, ends_length) in
      let here = at k within in
      elim (next_end k within) [ inl inner ↦ omega (arith, here, inner.1) | inr last ↦ omega (arith, here, last.0, last.1) ]

  is_closed : slice_index_or (0 ∷ ends) (length ends) 0 ≡ count
  is_closed =
      let size : length ends ≡ suc (suc full) = omega (arith, ends_length) in
      ap (λ n. slice_index_or (0 ∷ ends) n 0) size ∙ at_end full refl

are_batches : (first count : ℕ) → 1 ≤ first → first ≤ BATCH_LINE_LIMIT → first < count → AreEndsOf count (batch_ends first count)
are_batches first count some few more = record {
  ascend = ascends first count some more;
  short = is_short first count few more;
  closed = is_closed first count;
}

pub all_trials : AreTrials
all_trials seed n some few = record {
  jobs = trial_fits seed n;
  count = jobs_count seed n;
  batches = are_batches n (job_count n) some (omega arith) (omega arith);
}
