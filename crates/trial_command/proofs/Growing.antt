-- What grows step by step: draws, memberships and jobs.
use Rattle.std.proofs.Common.{◌≡◌, ℕ, zero, suc, ◌+◌, ◌*◌, ◌-◌, ◌/◌, ◌%◌, Bool, true, cond, List, [], ◌∷◌, ◌++◌, map, length, if◌then◌else◌, refl}
use Rattle.std.proofs.Common.{◌∙◌, add-one, length-append, arith}
use Rattle.std.specs.List.{range_with_len}
use Rattle.std.specs.FinSet as set
use Rattle.std.proofs.lemmas.List.FromFn.{map-range_with_len_more}
use Rattle.std.proofs.lemmas.Bool.Decides.{nat_tests}
use Rattle.basics.specs.Laws.Pairs.{Pairs}
use Rattle.basics.specs.PairLaws.{insert_held, pair_cmp_total, pair_cmp-IsAntisymmetric}
use Rattle.wf_names.specs.declared.limits.TheConstants.{BATCH_LINE_LIMIT}
use Rattle.wf_talk.specs.declared.job.Job.{Job}
use Rattle.wf_talk.specs.declared.request.Request.{Request}
use Rattle.wf_talk.specs.declared.request.Request.TheVariants as request
use Rattle.trial_command.specs.Draws.{after, next_state}
use Rattle.trial_command.specs.Draws as draws
use Rattle.trial_command.specs.Named.{flow_name}
use Rattle.trial_command.specs.Policy.{drawn_members}
use Rattle.trial_command.specs.Jobs.{Made, begins_with_edit, job_count, openings, rounds, trial_jobs, turn, turns, with_edit, with_request}
use Rattle.trial_command.specs.Jobs.{with_round}

pub after_none : (s : ℕ) → after 0 s ≡ s
unfolding after
after_none s = refl

pub after_more : (n s : ℕ) → after (n + 1) s ≡ next_state (after n s)
unfolding after
after_more n s = rw (add-one n) refl

pub members_none : (seed : ℕ) → drawn_members seed 0 ≡ set.empty
unfolding drawn_members
members_none seed = refl

pub members_more : (seed u : ℕ) → drawn_members seed (u + 1) ≡ set.insert (set.insert (drawn_members seed u) (u, u % 5)) (u, draws.drawn_below 5 (after u seed))
unfolding drawn_members
members_more seed u = rw (add-one u) refl

-- a pair that is held is no news
pub held_again : (s : Pairs) (u r : ℕ) → set.contains s (u, r) ≡ true → set.insert s (u, r) ≡ s
held_again s u r held = insert_held pair_cmp_total pair_cmp-IsAntisymmetric s (u, r) held

pub openings_none : openings 0 ≡ []
unfolding openings
openings_none = refl

pub openings_more : (n : ℕ) → openings (n + 1) ≡ with_request (openings n) 0 (request.OpenCase flow_name)
unfolding openings
openings_more n = rw (add-one n) refl

pub job_more : (jobs : List Job) (lane : ℕ) (what : Request) → length (with_request jobs lane what) ≡ length jobs + 1
job_more jobs lane what = length-append jobs _

pub openings_count : (n : ℕ) → length (openings n) ≡ n
unfolding openings
openings_count zero = refl
openings_count (suc n) = job_more (openings n) 0 _ ∙ omega (arith, openings_count n)

pub turns_none : (v : ℕ) (m : Made) → turns v 0 m ≡ m
unfolding turns
turns_none v m = refl

pub turns_more : (v c : ℕ) (m : Made) → turns v (c + 1) m ≡ turn v c (turns v c m)
unfolding turns
turns_more v c m = rw (add-one c) refl

pub turn_count : (v c : ℕ) (m : Made) → length (turn v c m).jobs ≡ length m.jobs + 2
unfolding turn
turn_count v c m = grind (arith, job_more)

pub turns_count : (v c : ℕ) (m : Made) → length (turns v c m).jobs ≡ length m.jobs + 2 * c
unfolding turns
turns_count v zero m = omega arith
turns_count v (suc c) m = omega (arith, turn_count v c (turns v c m), turns_count v c m)

pub edit_count : (m : Made) → length (with_edit m).jobs ≡ length m.jobs + 1
unfolding with_edit
edit_count m = job_more m.jobs 0 _

pub rounds_none : (n : ℕ) (m : Made) → rounds n 0 m ≡ m
unfolding rounds
rounds_none n m = refl

pub rounds_more : (n v : ℕ) (m : Made) → rounds n (v + 1) m ≡ with_round n v (rounds n v m)
unfolding rounds
rounds_more n v m = rw (add-one v) refl

-- how many edits the first so many rounds have
abbrev edits : ℕ → ℕ
edits v = (v - 1) / 4

begun_count : (v : ℕ) (m : Made) (b : Bool) → begins_with_edit v ≡ b → length (if b then with_edit m else m).jobs ≡ length m.jobs + cond b 1 0
begun_count v m b is = grind (arith, edit_count)

edit_more : (v : ℕ) (b : Bool) → begins_with_edit v ≡ b → edits (v + 1) ≡ edits v + cond b 1 0
edit_more v b is = grind (arith, nat_tests)

pub round_count : (n v : ℕ) (m : Made) → length (with_round n v m).jobs ≡ length m.jobs + 2 * n + cond (begins_with_edit v) 1 0
unfolding with_round
round_count n v m = turns_count v n _ ∙ omega (arith, begun_count v m (begins_with_edit v) refl)

pub rounds_count : (n v : ℕ) (m : Made) → length (rounds n v m).jobs ≡ length m.jobs + 2 * n * v + edits v
unfolding rounds
rounds_count n zero m = omega arith
rounds_count n (suc v) m = omega (arith, round_count n v (rounds n v m), rounds_count n v m, edit_more v (begins_with_edit v) refl)

-- the ends of batches within
pub ends_more : (first b : ℕ) → map (λ b. first + BATCH_LINE_LIMIT * b) (range_with_len 1 (b + 1)) ≡ map (λ b. first + BATCH_LINE_LIMIT * b)
    (range_with_len 1 b) ++ (first + BATCH_LINE_LIMIT * (b + 1)) ∷ []
ends_more first b = map-range_with_len_more (λ b. first + BATCH_LINE_LIMIT * b) 1 b (b + 1) (omega arith)

pub ends_step : (before behind : List ℕ) (first b : ℕ) → behind ≡ before ++ (first + BATCH_LINE_LIMIT * (b + 1)) ∷ [] → before ≡ first ∷ map
    (λ b. first + BATCH_LINE_LIMIT * b) (range_with_len 1 b) → behind ≡ first ∷ map (λ b. first + BATCH_LINE_LIMIT * b) (range_with_len 1 (b + 1))
ends_step before behind first b pushed so_far = grind (arith, ends_more)

pub made_count : (seed n : ℕ) → length (rounds n 24 (record { state = after 60 seed; jobs = openings n })).jobs ≡ job_count n
made_count seed n = omega (arith, rounds_count n 24 (record { state = after 60 seed; jobs = openings n }), openings_count n)

pub jobs_count : (seed n : ℕ) → length (trial_jobs seed n) ≡ job_count n
unfolding trial_jobs
jobs_count seed n = made_count seed n

-- what is made by one more user
pub ruleset drawn_roles = (after_none, after_more, members_none, members_more)

-- what is made by one more opening
pub ruleset all_openings = (openings_none, openings_more, openings_count)

-- what is made by one more turn of a round
pub ruleset cases = (turns_none, turns_more, turns_count, edit_count)

-- what is made by one more round
pub ruleset all_rounds = (rounds_none, rounds_more, rounds_count, openings_count)

-- how many jobs a trial has
pub ruleset counts = (made_count, jobs_count)
