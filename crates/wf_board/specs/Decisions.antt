-- Why a request is denied, before the last decision: whether its case can be completed.
use Rattle.std.specs.Prelude.{◌==◌, ℕ, Bool, true, false, not, Option, None, Some, Result, Ok, Err}
use Rattle.basics.specs.Laws.Reading.{◌>>=◌}
use Rattle.wf_names.specs.States.{is_held}
use Rattle.wf_names.specs.declared.states.StepState.{StepState}
use Rattle.wf_names.specs.declared.states.StepState.TheVariants.{Free, Held, Finished}
use Rattle.policy_book.specs.Policies.{flow_at}
use Rattle.case_record.specs.Cases.{state_at}
use Rattle.wf_talk.specs.declared.request.Request.TheVariants as request
use Rattle.wf_talk.specs.declared.request.Ask.{Ask}
use Rattle.wf_talk.specs.declared.request.Ask.TheVariants as ask
use Rattle.wf_talk.specs.declared.reply.Denial.{Denial}
use Rattle.wf_talk.specs.declared.reply.Denial.TheVariants.{Retired, Full, NotHeld}
use Rattle.admin_edits.specs.ClaimCauses as causes
use Rattle.admin_edits.specs.ClaimCauses.{first_cause, unless}
use Rattle.wf_board.specs.declared.deed.Deed.{Deed}
use Rattle.wf_board.specs.declared.deed.Duty.{Duty}
use Rattle.wf_board.specs.declared.deed.Deed.TheVariants as deed
use Rattle.wf_board.specs.Laws.States.{Book, is_full}
use Rattle.wf_board.specs.Resolve.{resolve}

-- a user holds a step that stands so
abbrev pub is_held_by : ℕ → StepState → Bool
is_held_by u Free = false
is_held_by u (Held v) = v == u
is_held_by u (Finished v) = false

-- that the user does not hold the step
abbrev pub unless_holding : Duty → Option Denial
unless_holding d =
    unless (is_held_by d.user (state_at d.case d.step)) (NotHeld (state_at d.case d.step))

-- why a deed is denied, `full` of an opening aside
abbrev pub cause_aside : Book → Deed → Option Denial
cause_aside b (deed.Open f) = unless (not (flow_at b.policy f).retired) Retired
cause_aside b (deed.Claim d) = first_cause b.policy d.case d.step d.user
cause_aside b (deed.Finish d) = unless_holding d
cause_aside b (deed.GiveBack d) = unless_holding d
cause_aside b (deed.Release n c s) = unless (is_held (state_at c s)) (NotHeld (state_at c s))
cause_aside b given = None

-- an opening, where no more cases can be opened
abbrev pub cause_full : Book → Deed → Option Denial
cause_full b (deed.Open f) = unless (not (is_full b)) Full
cause_full b given = None

-- a deed, unless there is a cause against it
abbrev pub unless_denied : Deed → Option Denial → Result Deed Denial
unless_denied given None = Ok given
unless_denied given (Some d) = Err d

-- the deed that a line asks for, or the first cause against it, `full` of an opening aside
abbrev pub decision_aside : Book → Ask → Result Deed Denial
decision_aside b what = do
  given ← resolve b what
  unless_denied given (cause_aside b given)

-- the deed that a line asks for, or the first cause against it
abbrev pub decision_of : Book → Ask → Result Deed Denial
decision_of b what = do
  given ← decision_aside b what
  unless_denied given (cause_full b given)

-- a deed that rests on whether its case can be completed, or on whether the open cases can be
abbrev pub needs_plan : Deed → Bool
needs_plan (deed.Open f) = true
needs_plan (deed.Claim d) = true
needs_plan (deed.Change a) = true
needs_plan (deed.Work u) = true
needs_plan (deed.WhatIf a) = true
needs_plan given = false

-- no cause, and whether cases can be completed decides
abbrev pub needs_verdict : Result Deed Denial → Bool
needs_verdict (Ok given) = needs_plan given
needs_verdict (Err d) = false

-- a work list, or what an edit would strand: it changes nothing, and is never answered again
abbrev pub is_view : Ask → Bool
is_view (ask.Request (request.Worklist user)) = true
is_view (ask.Request (request.WhatIf by edit)) = true
is_view what = false

-- a denial that takes memory
abbrev pub takes_memory : Result Deed Denial → Bool
takes_memory (Err d) = causes.takes_memory (Some d)
takes_memory (Ok d) = false
