-- A deed on which a verdict is still needed, and verdicts on deeds.
use Rattle.std.specs.Prelude.{◌≡◌, ◌≢◌, ◌≤◌, ◌+◌, ◌&&◌, not, Bool, true, false, Result, Ok, Err}
use Rattle.wf_talk.specs.declared.request.Ask.{Ask}
use Rattle.wf_talk.specs.declared.reply.Denial.{Denial}
use Rattle.wf_talk.specs.declared.reply.Reply.{Reply}
use Rattle.wf_talk.specs.declared.reply.Reply.TheVariants as reply
use Rattle.admin_edits.specs.declared.amendment.Amendment.{Amendment}
use Rattle.admin_edits.specs.declared.amendment.Amendment.TheVariants as amend
use Rattle.wf_board.specs.declared.deed.Deed.{Deed}
use Rattle.wf_board.specs.declared.deed.Deed.TheVariants as deed
use Rattle.wf_board.specs.declared.verdict.Verdict.{Verdict}
use Rattle.wf_board.specs.declared.verdict.Verdict.TheVariants as verdict
use Rattle.wf_board.specs.declared.verdict.Answered.{Answered}
use Rattle.wf_board.specs.declared.verdict.Answered.TheVariants as answered
use Rattle.wf_board.specs.declared.verdict.Stepped.{Stepped}
use Rattle.wf_board.specs.declared.verdict.Stepped.TheVariants.{Done, Undecided}
use Rattle.policy_book.specs.Laws.Shapes.{PolicyShape}
use Rattle.grant_table.specs.Cases.{CasesShape}
use Rattle.wf_board.specs.Laws.States.{Book}
use Rattle.wf_board.specs.Boards.{BoardShape, book_of, state_on}
use Rattle.wf_board.specs.Decisions.{decision_aside, decision_of, needs_plan, needs_verdict}
use Rattle.wf_board.specs.Laws.Found.{IsFound}
use Rattle.wf_board.specs.Laws.KeptPlans.{KeepsPlans}
use Rattle.wf_board.specs.Laws.Steps.{IsStep, room_taken, state_after_step}
use Rattle.wf_board.specs.Limits.{shows_large}
use Rattle.wf_board.specs.Verdicts.{IsDecided, IsEditionFor, IsPlanFor, IsStrandingFor, IsTreeFor}
use Rattle.wf_board.specs.Verdicts.{IsViewFor}

-- a verdict fits a deed
abbrev pub FitsDeed : Book → Deed → Verdict → Type 0
FitsDeed b given verdict.Nothing = Unit {0}
FitsDeed b given verdict.NoMemory = Unit {0}
FitsDeed b given verdict.OverBudget = Unit {0}
FitsDeed b given (verdict.Plan plan) = IsPlanFor b (Ok given) plan
FitsDeed b given (verdict.Refuted tree) = IsTreeFor b (Ok given) tree
FitsDeed b given (verdict.Edited edition) = IsEditionFor b (Ok given) edition
FitsDeed b given (verdict.Strands n tree) = IsStrandingFor b (Ok given) n tree
FitsDeed b given (verdict.View v) = IsViewFor b (Ok given) v

-- a verdict decides a deed: there is one exactly where one is needed
pub record DecidesDeed (b : Book) (deed : Deed) (v : Verdict) : Type 0 where
  pub fits : FitsDeed b deed v
  pub nothing : needs_plan deed ≡ false → v ≡ verdict.Nothing
  pub something : needs_plan deed ≡ true → v ≢ verdict.Nothing

-- the deed that is asked for: no cause is against it, and only a verdict is needed
pub record IsUndecided (p : PolicyShape) (t : CasesShape) (what : Ask) (d : Deed) : Type 0 where
  pub aside : decision_aside (book_of p t) what ≡ Ok d
  pub decided : decision_of (book_of p t) what ≡ Ok d
  pub found : IsFound p t.rows d
  pub needs : needs_plan d ≡ true

-- a deed that goes over the open cases: an edit or a view
abbrev pub is_over_open : Deed → Bool
is_over_open (deed.Change a) = true
is_over_open (deed.Work u) = true
is_over_open (deed.WhatIf a) = true
is_over_open given = false

-- a change that makes no valid plan invalid, whatever the plan
abbrev pub is_harmless : Amendment → Bool
is_harmless (amend.AddUser name) = true
is_harmless (amend.Enrol u r) = true
is_harmless (amend.Permit f r s) = true
is_harmless (amend.Retire f) = true
is_harmless a = false

-- a deed is such a change
abbrev pub is_harmless_deed : Deed → Bool
is_harmless_deed (deed.Change a) = is_harmless a
is_harmless_deed given = false

-- no cause, and a verdict on whether cases can be completed has to be searched for: it is no change
-- that hurts no plan
abbrev pub needs_search : Result Deed Denial → Bool
needs_search (Ok given) = needs_plan given && not (is_harmless_deed given)
needs_search (Err d) = false

-- what came of a request, as an answer with no verdict
abbrev pub answered_of : Stepped → Answered
answered_of (Done given) = answered.Done given
answered_of (Undecided d) = answered.Needs

-- a request was looked at: it needs no verdict and was answered, or this is the deed
abbrev pub IsLeftTo : PolicyShape → CasesShape → Ask → Stepped → Type 0
IsLeftTo p t what (Done given) = needs_verdict (decision_of (book_of p t) what) ≡ false
IsLeftTo p t what (Undecided d) = IsUndecided p t what d

-- a board was asked, with no verdict: it has answered what needs none, or there is the deed, and
-- nothing has changed
abbrev pub HasStepped : BoardShape → BoardShape → Ask → Stepped → Type 0
HasStepped before after what (Done given) =
    IsDecided before what verdict.Nothing given ×
    ((state_on after ≡ state_after_step (state_on before) what given)
    × (needs_verdict (decision_of (state_on before).book what) ≡ false))
HasStepped before after what (Undecided d) = IsUndecided before.policy before.cases what d ×
    (after ≡ before)

-- what a reply leaves of a board besides its state: the plans of the deed or of the verdict; the
-- whole board after want of memory; and all room but what the reply takes
pub record Leaves (before after : BoardShape) (what : Ask) (v : Verdict) (given : Reply)
    : Type 0 where
  pub plans : KeepsPlans before after what v given
  pub lacking : given ≡ reply.NoMemory → after ≡ before
  pub spare : before.cases.spare ≤ after.cases.spare + room_taken given

-- so it does where it has answered
abbrev pub LeavesBy : BoardShape → BoardShape → Ask → Verdict → Answered → Type 0
LeavesBy before after what v answered.Needs = Unit {0}
LeavesBy before after what v (answered.Done given) = Leaves before after what v given

-- a deed that was left to decide has got its reply, which is a step and shows no tree that is too
-- large
pub record HasSettled (before after : BoardShape) (what : Ask) (v : Verdict) (given : Reply)
    : Type 0 where
  pub step : IsStep (state_on before) what given
  pub small : shows_large given ≡ false
  pub next : state_on after ≡ state_after_step (state_on before) what given
  pub left : Leaves before after what v given
