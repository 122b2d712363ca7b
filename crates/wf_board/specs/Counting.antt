-- Which entries count for a request: they changed what its decision rests on.
use Rattle.std.specs.Prelude.{◌≡◌, ℕ, ◌+◌, ◌||◌, nat_eq, Bool, false, true, is_some, List, [], ◌∷◌}
use Rattle.std.specs.Prelude.{drop, Option, None, Some, if◌then◌else◌}
use Rattle.wf_talk.specs.declared.entry.Entry.{Entry}
use Rattle.wf_talk.specs.declared.request.Request.TheVariants as request
use Rattle.wf_talk.specs.declared.request.Ask.{Ask}
use Rattle.wf_talk.specs.declared.request.Ask.TheVariants as ask
use Rattle.wf_talk.specs.declared.reply.Reply.{Reply}
use Rattle.wf_talk.specs.declared.reply.Reply.TheVariants as reply
use Rattle.wf_talk.specs.Requests.{case_of_ask}
pub use Rattle.admin_edits.specs.Hurting.{is_number}

-- the case that a reply changed, where this was asked
abbrev pub changed_case : Ask → Reply → Option ℕ
changed_case what (reply.Opened n plan) = Some n
changed_case what (reply.Granted plan) = case_of_ask what
changed_case what (reply.Finished done) = case_of_ask what
changed_case what reply.Returned = case_of_ask what
changed_case what reply.Released = case_of_ask what
changed_case what reply.Withdrawn = case_of_ask what
changed_case what given = None

-- a reply to an edit that changed the policy
abbrev pub is_edited : Reply → Bool
is_edited (reply.Edited number) = true
is_edited given = false

-- an entry changed the policy or any case
abbrev pub changes_any : Entry → Bool
changes_any e = is_edited e.reply || is_some (changed_case e.ask e.reply)

-- whether an entry counts for what is asked: where it changed the policy, for a claim where it
-- changed its case too, and for an edit, a work list and what an edit would strand where it changed
-- any case
abbrev pub counts_for : Entry → Ask → Bool
counts_for e (ask.Request (request.OpenCase flow)) = is_edited e.reply
counts_for e (ask.Request (request.Claim n step user)) = is_edited e.reply ||
    is_number n (changed_case e.ask e.reply)
counts_for e (ask.Request (request.Change by edit)) = changes_any e
counts_for e (ask.Request (request.Worklist user)) = changes_any e
counts_for e (ask.Request (request.WhatIf by edit)) = changes_any e
counts_for e what = false

-- how many pass
abbrev pub count_of : (Entry → Bool) → List Entry → ℕ
count_of test [] = 0
count_of test (e ∷ es) = (if test e then 1 else 0) + count_of test es

-- how many count for what is asked
abbrev pub counted : Ask → List Entry → ℕ
counted what es = count_of (λ e. counts_for e what) es

-- the place behind the last that passes, of entries of which the first stands at n; before, where
-- none does
abbrev pub last_end_from : ℕ → ℕ → (Entry → Bool) → List Entry → ℕ
last_end_from n before test [] = before
last_end_from n before test (e ∷ es) =
    last_end_from (n + 1) (if test e then n + 1 else before) test es

-- the place behind a lane's last entry
abbrev pub lane_end : ℕ → List Entry → ℕ
lane_end lane es = last_end_from 0 0 (λ e. nat_eq e.lane lane) es

-- the place behind the last entry that counts for what is asked
abbrev pub counted_end : Ask → List Entry → ℕ
counted_end what es = last_end_from 0 0 (λ e. counts_for e what) es

-- no entry from a place on counts for what is asked
abbrev pub IsFresh : List Entry → ℕ → Ask → Type 0
IsFresh es n what = counted what (drop n es) ≡ 0
