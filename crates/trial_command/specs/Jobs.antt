-- The jobs of a trial: cases are opened, and then they have their turns at each step.
use Rattle.std.specs.Prelude.{ℕ, zero, suc, ◌+◌, ◌*◌, ◌-◌, ◌/◌, ◌%◌, Bool, ◌&&◌, ◌==◌, nat_lt, List}
use Rattle.std.specs.Prelude.{[], ◌∷◌, ◌++◌, map, length, if◌then◌else◌}
use Rattle.std.specs.List.{range_with_len}
use Rattle.wf_names.specs.declared.limits.TheConstants.{BATCH_LINE_LIMIT}
use Rattle.wf_talk.specs.declared.edit.Edit.TheVariants as change
use Rattle.wf_talk.specs.declared.job.Job.{Job}
use Rattle.wf_talk.specs.declared.request.Ask.TheVariants as ask
use Rattle.wf_talk.specs.declared.request.Request.{Request}
use Rattle.wf_talk.specs.declared.request.Request.TheVariants as request
use Rattle.trial_command.specs.Draws.{after, drawn_below, next_state}
use Rattle.trial_command.specs.Named.{user_name, step_name, role_name, flow_name}

-- what has been made so far: the generator's state and the jobs
pub record Made : Type 0 where
  pub state : ℕ
  pub jobs : List Job

-- one more job for a lane, on the next line
abbrev pub with_request : List Job → ℕ → Request → List Job
with_request jobs lane what =
    jobs ++ record { lane = lane; line = length jobs; ask = ask.Request what } ∷ []

-- n cases are opened
unfoldable pub openings : ℕ → List Job
openings zero = []
openings (suc i) = with_request (openings i) 0 (request.OpenCase flow_name)

-- there are 24 rounds, two for each step
abbrev pub step_of : ℕ → ℕ
step_of v = v / 2

-- the user of a turn: in an even round one of the twelve who have the step's role by their number,
-- in an odd round anybody
unfoldable pub turn_user : ℕ → ℕ → ℕ
turn_user v s = if v % 2 == 0 then 5 * drawn_below 12 s + step_of v % 5 else drawn_below 60 s

-- the user claims and finishes the round's step of the case c
abbrev pub with_turn : ℕ → ℕ → ℕ → List Job → List Job
with_turn v c u jobs =
    with_request (with_request jobs (c % 4) (request.Claim c (step_name (step_of v)) (user_name u)))
    (c % 4) (request.Finish c (step_name (step_of v)) (user_name u))

-- the turn of the case c in the round v
unfoldable pub turn : ℕ → ℕ → Made → Made
turn v c m =
    record { state = next_state m.state; jobs = with_turn v c (turn_user v m.state) m.jobs }

-- the turns of the cases below c in the round v
unfoldable pub turns : ℕ → ℕ → Made → Made
turns v zero m = m
turns v (suc c) m = turn v c (turns v c m)

-- the rounds 4, 8, 12, 16 and 20 begin with an edit
abbrev pub begins_with_edit : ℕ → Bool
begins_with_edit v = nat_lt 0 v && (v % 4 == 0)

-- the administrator `u00` takes from the user e the role e mod 5
unfoldable pub with_edit : Made → Made
with_edit m = record {
  state = next_state m.state;
  jobs = with_request m.jobs 0 (request.Change (user_name 0)
      (change.Dismiss (role_name (drawn_below 60 m.state % 5))
      (user_name (drawn_below 60 m.state))));
}

-- the round v with n cases
unfoldable pub with_round : ℕ → ℕ → Made → Made
with_round n v m = turns v n (if begins_with_edit v then with_edit m else m)

-- the first v rounds with n cases
unfoldable pub rounds : ℕ → ℕ → Made → Made
rounds n zero m = m
rounds n (suc v) m = with_round n v (rounds n v m)

-- the jobs for n cases; the policy's sixty draws are made before
unfoldable pub trial_jobs : ℕ → ℕ → List Job
trial_jobs seed n = (rounds n 24 (record { state = after 60 seed; jobs = openings n })).jobs

-- how many jobs there are for n cases: an opening and 24 turns of each, and five edits
abbrev pub job_count : ℕ → ℕ
job_count n = n + 48 * n + 5

-- the ends of batches, of which the first has `first` jobs: then at each 1,024 jobs and at the end
unfoldable pub batch_ends : ℕ → ℕ → List ℕ
batch_ends first count =
    first ∷ map (λ b. first + BATCH_LINE_LIMIT * b)
    (range_with_len 1 ((count - first - 1) / BATCH_LINE_LIMIT)) ++ count ∷ []

-- the ends of batches for n cases, of which the first has the openings
abbrev pub trial_ends : ℕ → List ℕ
trial_ends n = batch_ends n (job_count n)
