-- Taking the step of a reply that somebody else gave.
use Rattle.std.specs.Prelude.{◌≡◌, ◌≢◌, ℕ, ◌+◌, ◌≤◌, Bool, true, false, Result, Ok, Err}
use Rattle.std.proofs.Common.{◌⊎◌}
use Rattle.wf_talk.specs.declared.request.Ask.{Ask}
use Rattle.wf_talk.specs.declared.reply.Reply.{Reply}
use Rattle.wf_talk.specs.declared.reply.Reply.TheVariants as reply
use Rattle.wf_talk.specs.declared.reply.Denial.{Denial}
use Rattle.basics.specs.declared.fault.Fault.{Fault}
use Rattle.basics.specs.declared.fault.Fault.TheVariants.{Cause, NoMemory}
use Rattle.wf_board.specs.declared.admit.NotStep.{NotStep}
use Rattle.wf_board.specs.declared.deed.Deed.{Deed}
use Rattle.wf_board.specs.declared.deed.Deed.TheVariants as deed
use Rattle.wf_board.specs.declared.verdict.Verdict.{Verdict}
use Rattle.wf_board.specs.declared.verdict.Verdict.TheVariants as verdict
use Rattle.wf_board.specs.Laws.States.{State}
use Rattle.wf_board.specs.Boards.{BoardShape, state_on}
use Rattle.wf_board.specs.Decisions.{decision_of, takes_memory}
use Rattle.wf_board.specs.Laws.KeptPlans.{KeepsPlans}
use Rattle.wf_board.specs.Laws.Steps.{IsStep, room_taken, state_after_step}
use Rattle.wf_board.specs.Verdicts.{is_opening, is_want}

-- an edit against which there is no cause
abbrev pub is_edit_left : Result Deed Denial → Bool
is_edit_left (Ok (deed.Change a)) = true
is_edit_left given = false

-- an edit or a view over the open cases, against which there is no cause
abbrev pub rests_on_all : Result Deed Denial → Bool
rests_on_all (Ok (deed.Change a)) = true
rests_on_all (Ok (deed.Work u)) = true
rests_on_all (Ok (deed.WhatIf a)) = true
rests_on_all given = false

-- an edit or a view, against which there is no cause, has a verdict that was found out, unless its
-- reply is want of memory
abbrev pub HasVerdict : State → Ask → Reply → Verdict → Type 0
HasVerdict s what given v =
    rests_on_all (decision_of s.book what) ≡ true → given ≢ reply.NoMemory →
    (v ≢ verdict.Nothing) × (is_want v ≡ false)

-- where there may be no memory to take a reply, with room for `spare` more cases: for the list of
-- roles of a denial, for an opening without room, or for the policy after an edit
abbrev pub MayLackMemoryFor : ℕ → Result Deed Denial → Type 0
MayLackMemoryFor spare r =
    (takes_memory r ≡ true) ⊎ (((is_opening r ≡ true) × (spare ≡ 0)) ⊎ (is_edit_left r ≡ true))

-- a board has taken the step of a reply, with a verdict
pub record HasTakenReply (before after : BoardShape) (what : Ask) (v : Verdict)
    (given : Reply) : Type 0 where
  pub step : IsStep (state_on before) what given
  pub next : state_on after ≡ state_after_step (state_on before) what given
  pub plans : KeepsPlans before after what v given
  pub spare : before.cases.spare ≤ after.cases.spare + room_taken given

-- a board has taken the step of a reply; or the reply is no step, or there was no memory, and
-- nothing has changed
abbrev pub HasAdmittedStep : BoardShape → BoardShape → Ask → Verdict → Reply →
    Result (Unit {0}) (Fault NotStep) → Type 0
HasAdmittedStep before after what v given (Ok done) = HasTakenReply before after what v given
HasAdmittedStep before after what v given (Err (Cause _)) = (after ≡ before) ×
    (¬ IsStep (state_on before) what given)
HasAdmittedStep before after what v given (Err NoMemory) =
    (after ≡ before) × MayLackMemoryFor before.cases.spare (decision_of (state_on before).book what)
