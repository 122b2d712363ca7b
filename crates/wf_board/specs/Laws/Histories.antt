-- Histories: entries in order, and whether they answer the jobs of an input.
use Rattle.std.specs.Prelude.{◌≡◌, ℕ, ◌+◌, ◌<◌, ◌≤◌, Bool, true, false, nat_eq, List, [], ◌∷◌, ◌++◌}
use Rattle.std.specs.Prelude.{length, take, drop, map, max, slice_index_or}
use Rattle.std.specs.List.{filter}
use Rattle.std.proofs.Common.{◌⊎◌}
use Rattle.wf_talk.specs.declared.entry.Entry.{Entry}
use Rattle.wf_talk.specs.declared.job.Job.{Job}
use Rattle.wf_talk.specs.declared.request.Request.TheVariants as request
use Rattle.wf_talk.specs.declared.request.Ask.{Ask}
use Rattle.wf_talk.specs.declared.request.Ask.TheVariants as ask
use Rattle.wf_talk.specs.declared.reply.Reply.TheVariants.{Again, NoMemory}
use Rattle.wf_board.specs.Laws.States.{State}
use Rattle.wf_board.specs.Decisions.{decision_of, is_view, needs_verdict}
use Rattle.wf_board.specs.Laws.Steps.{IsStep, state_after_step}
use Rattle.wf_board.specs.Limits.{shows_large}
use Rattle.wf_board.specs.Counting.{counted, counted_end, lane_end}

-- the state after a history
abbrev pub state_after : State → List Entry → State
state_after s [] = s
state_after s (e ∷ es) = state_after (state_after_step s e.ask e.reply) es

-- P holds of each of these entries and those before it
abbrev pub EachAfter : (List Entry → Entry → Type 0) → List Entry → List Entry → Type 0
EachAfter P earlier [] = Unit {0}
EachAfter P earlier (e ∷ es) = P earlier e × EachAfter P (earlier ++ e ∷ []) es

-- after a history, a lane's request may be answered again: some rounds are allowed, and n is how
-- many; it is no view, only whether cases can be completed is left to decide, n entries that count
-- for it or more stand behind the lane's last one, and the last that counts stands at this place
pub record MayRetry (s : State) (earlier : List Entry) (rounds lane : ℕ) (what : Ask)
    (n place : ℕ) : Type 0 where
  pub undecided : needs_verdict (decision_of (state_after s earlier).book what) ≡ true
  pub deed : is_view what ≡ false
  pub positive : 1 ≤ rounds
  pub all : n ≡ rounds
  pub enough : rounds ≤ counted what (drop (lane_end lane earlier) earlier)
  pub last : place + 1 ≡ counted_end what earlier

-- an entry is answered again as it may be
abbrev pub IsRetry : State → ℕ → List Entry → Entry → Type 0
IsRetry s rounds earlier e =
    (n : ℕ) × ((place : ℕ) ×
    ((e.reply ≡ Again n place) × MayRetry s earlier rounds e.lane e.ask n place))

-- an entry stands at its place, and its reply is a step from the state that the earlier ones leave,
-- or `again` as it may be
abbrev pub IsRightAfter : State → ℕ → List Entry → Entry → Type 0
IsRightAfter s rounds earlier e =
    (e.at ≡ length earlier) ×
    (IsStep (state_after s earlier) e.ask e.reply ⊎ IsRetry s rounds earlier e)

-- a legal history from the state s on, with `rounds` rounds allowed
abbrev pub IsLegal : State → ℕ → List Entry → Type 0
IsLegal s rounds entries = EachAfter (IsRightAfter s rounds) [] entries

-- the job that an entry answers
abbrev pub job_of_entry : Entry → Job
job_of_entry e = record { lane = e.lane; line = e.line; ask = e.ask }

-- the jobs of one lane, in order
abbrev pub lane_jobs : ℕ → List Job → List Job
lane_jobs lane jobs = filter (λ j. nat_eq j.lane lane) jobs

-- where a batch begins: at the end of the one before
abbrev pub batch_start : List ℕ → ℕ → ℕ
batch_start batch_ends k = slice_index_or (0 ∷ batch_ends) k 0

-- where a batch ends
abbrev pub batch_end : List ℕ → ℕ → ℕ
batch_end batch_ends k = slice_index_or batch_ends k 0

-- the jobs of one batch
abbrev pub batch_jobs : List ℕ → ℕ → List Job → List Job
batch_jobs batch_ends k jobs = drop (batch_start batch_ends k) (take (batch_end batch_ends k) jobs)

-- an entry that is answered again after n rounds rests on its batch, which begins at start: n
-- entries or more that count for it stand there behind its lane's last one
abbrev pub RestsFrom : ℕ → List Entry → Entry → Type 0
RestsFrom start earlier e =
    (n place : ℕ) → e.reply ≡ Again n place →
    n ≤ counted e.ask (drop (max (lane_end e.lane earlier) start) earlier)

-- each entry of one batch that is answered again rests on entries of the batch
abbrev pub BatchRests : List ℕ → ℕ → List Entry → Type 0
BatchRests batch_ends k entries =
    EachAfter (RestsFrom (batch_start batch_ends k)) (take (batch_start batch_ends k) entries)
    (drop (batch_start batch_ends k) (take (batch_end batch_ends k) entries))

-- the entries hold each job once: batch after batch, and within a batch each lane's in order
pub record FillsJobs (entries : List Entry) (jobs : List Job) (batch_ends : List ℕ) : Type 0 where
  pub whole : length entries ≡ length jobs
  pub batches : (k : ℕ) → k < length batch_ends → (lane : ℕ) →
      lane_jobs lane (batch_jobs batch_ends k (map job_of_entry entries)) ≡ lane_jobs lane
      (batch_jobs batch_ends k jobs)
  pub rests : (k : ℕ) → k < length batch_ends → BatchRests batch_ends k entries

-- an entry is not answered again
abbrev pub IsAnsweredOnce : Entry → Type 0
IsAnsweredOnce e = (n place : ℕ) → ¬ (e.reply ≡ Again n place)

-- no entry is answered again
abbrev pub AreAnsweredOnce : List Entry → Type 0
AreAnsweredOnce [] = Unit {0}
AreAnsweredOnce (e ∷ es) = IsAnsweredOnce e × AreAnsweredOnce es

-- what a board may have no memory for: an opening, a claim, an edit or a view over the open cases
abbrev pub may_lack_memory : Ask → Bool
may_lack_memory (ask.Request (request.OpenCase flow)) = true
may_lack_memory (ask.Request (request.Claim n step user)) = true
may_lack_memory (ask.Request (request.Change by edit)) = true
may_lack_memory (ask.Request (request.Worklist user)) = true
may_lack_memory (ask.Request (request.WhatIf by edit)) = true
may_lack_memory what = false

-- an entry is answered with want of memory only where a board may have none, and shows no tree that
-- is too large
abbrev pub IsRightful : Entry → Type 0
IsRightful e = (e.reply ≡ NoMemory → may_lack_memory e.ask ≡ true) × (shows_large e.reply ≡ false)

-- each of these entries is so
abbrev pub AreRightful : List Entry → Type 0
AreRightful [] = Unit {0}
AreRightful (e ∷ es) = IsRightful e × AreRightful es
