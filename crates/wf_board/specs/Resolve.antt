-- What is asked, with the case as it stands and numbers in place of names.
use Rattle.std.specs.Prelude.{ℕ, List, Result, Ok, Err}
use Rattle.basics.specs.Laws.Reading.{◌>>=◌, or_fault, check}
use Rattle.case_record.specs.Cases.{CaseShape, is_open}
use Rattle.wf_talk.specs.declared.request.Request.{Request}
use Rattle.wf_talk.specs.declared.request.Request.TheVariants as request
use Rattle.wf_talk.specs.declared.request.Ask.{Ask}
use Rattle.wf_talk.specs.declared.request.Ask.TheVariants as ask
use Rattle.wf_talk.specs.declared.reply.Denial.{Denial}
use Rattle.wf_talk.specs.declared.reply.Denial.TheVariants as denial
use Rattle.admin_edits.specs.declared.amendment.Amendment.{Amendment}
use Rattle.admin_edits.specs.declared.fault.EditCause.{EditCause}
use Rattle.admin_edits.specs.declared.fault.EditCause.TheVariants as fault
use Rattle.admin_edits.specs.Laws.Edits.{amendment_of, is_admin}
use Rattle.wf_board.specs.declared.deed.Deed.{Deed}
use Rattle.wf_board.specs.declared.deed.Duty.{Duty}
use Rattle.wf_board.specs.declared.deed.Deed.TheVariants.{Open, Claim, Finish, GiveBack, Release}
use Rattle.wf_board.specs.declared.deed.Deed.TheVariants.{Withdraw, Change, Show, Work, WhatIf}
use Rattle.wf_board.specs.declared.deed.Deed.TheVariants.{TurnAway}
use Rattle.wf_board.specs.Laws.States.{Book, numbered_case, flow_named, step_named, user_named}

-- the open case with a number
abbrev pub open_case_at : Book → ℕ → Result CaseShape Denial
open_case_at b n = do
  c ← or_fault (numbered_case b.cases n) denial.NoCase
  _ ← check (is_open c) denial.Closed
  Ok c

-- a deed on a step of an open case and a user
abbrev pub on_step : (Duty → Deed) → Book → ℕ → List ℕ → List ℕ → Result Deed Denial
on_step deed b n step user = do
  c ← open_case_at b n
  s ← or_fault (step_named b c.flow step) denial.NoStep
  u ← or_fault (user_named b user) denial.NoUser
  Ok (deed record { number = n; case = c; step = s; user = u })

-- why an edit is refused
abbrev pub edit_denial : EditCause → Denial
edit_denial fault.NotAdmin = denial.NotAdmin
edit_denial (fault.Unknown what) = denial.Unknown what
edit_denial fault.Fixed = denial.Fixed
edit_denial fault.Already = denial.Already
edit_denial fault.Absent = denial.Absent
edit_denial fault.Full = denial.Full
edit_denial fault.LastAdmin = denial.LastAdmin

-- a deed with the change that an edit is, or the edit's first fault
abbrev pub on_edit : (Amendment → Deed) → Result Amendment EditCause → Result Deed Denial
on_edit deed (Ok a) = Ok (deed a)
on_edit deed (Err fault) = Err (edit_denial fault)

-- what a request asks, or the first of its names and numbers that is nothing; of an edit its first
-- fault of any kind
abbrev pub resolve_request : Book → Request → Result Deed Denial
resolve_request b (request.OpenCase flow) = do
  f ← or_fault (flow_named b flow) denial.NoFlow
  Ok (Open f)
resolve_request b (request.Claim n step user) = on_step Claim b n step user
resolve_request b (request.Finish n step user) = on_step Finish b n step user
resolve_request b (request.GiveBack n step user) = on_step GiveBack b n step user
resolve_request b (request.Release by n step) = do
  _ ← check (is_admin b.policy by) denial.NotAdmin
  c ← open_case_at b n
  s ← or_fault (step_named b c.flow step) denial.NoStep
  Ok (Release n c s)
resolve_request b (request.Withdraw by n) = do
  _ ← check (is_admin b.policy by) denial.NotAdmin
  c ← open_case_at b n
  Ok (Withdraw n)
resolve_request b (request.Change by edit) = on_edit Change (amendment_of b.policy by edit)
resolve_request b (request.Show n) = do
  c ← or_fault (numbered_case b.cases n) denial.NoCase
  Ok (Show c)
resolve_request b (request.Worklist user) = do
  u ← or_fault (user_named b user) denial.NoUser
  Ok (Work u)
resolve_request b (request.WhatIf by edit) = on_edit WhatIf (amendment_of b.policy by edit)

-- what a line asks
abbrev pub resolve : Book → Ask → Result Deed Denial
resolve b (ask.Request request) = resolve_request b request
resolve b (ask.Bad bad) = Ok (TurnAway bad)
