-- Inside: how a board takes a reply over its policy and its table of cases.
use Rattle.std.specs.Prelude.{◌≡◌, ℕ, Bool, false, true, Result, Ok, Err}
use Rattle.policy_book.specs.Laws.Shapes.{PolicyShape}
use Rattle.grant_table.specs.Cases.{CasesShape}
use Rattle.wf_talk.specs.declared.reply.Reply.{Reply}
use Rattle.wf_talk.specs.declared.reply.Reply.TheVariants as reply
use Rattle.wf_talk.specs.declared.reply.Denial.{Denial}
use Rattle.wf_talk.specs.declared.reply.Denial.TheVariants as denial
use Rattle.basics.specs.declared.fault.Fault.{Fault}
use Rattle.basics.specs.declared.fault.Fault.TheVariants.{Cause, NoMemory}
use Rattle.wf_board.specs.declared.admit.NotStep.{NotStep}
use Rattle.wf_board.specs.declared.deed.Deed.{Deed}
use Rattle.wf_board.specs.declared.deed.Deed.TheVariants as deed
use Rattle.wf_board.specs.declared.verdict.Verdict.{Verdict}
use Rattle.wf_board.specs.declared.verdict.Verdict.TheVariants as verdict
use Rattle.wf_board.specs.declared.verdict.View.{View}
use Rattle.wf_board.specs.declared.verdict.View.TheVariants as view
use Rattle.wf_board.specs.Admit.{MayLackMemoryFor}
use Rattle.wf_board.specs.Laws.States.{Book}
use Rattle.wf_board.specs.Boards.{state_on}
use Rattle.wf_board.specs.Laws.Steps.{Answers}
use Rattle.wf_board.specs.Taking.{board_of, HasTakenStep}
use Rattle.wf_board.specs.Verdicts.{IsStrandingFor, IsViewFor}

-- a denial that shows no tree
abbrev pub has_no_tree : Denial → Bool
has_no_tree (denial.Unsatisfiable f tree) = false
has_no_tree (denial.Stranded f tree) = false
has_no_tree (denial.Strands n f tree) = false
has_no_tree d = true

-- the fault where the test fails
abbrev pub when : Bool → Result (Unit {0}) (Fault NotStep)
when true = Ok tt
when false = Err (Cause record {})

-- a reply is none where the deed or the cause against it is this
abbrev pub IsNoAnswer : PolicyShape → CasesShape → Result Deed Denial → Reply → Type 0
IsNoAnswer p t decision given = (edits : ℕ) →
    ¬ Answers (state_on (board_of p t edits)) decision given

-- a reply was taken, where the deed or the cause against it is this; or it is no step, or there was
-- no memory, and nothing has changed
abbrev pub HasAdmitted : PolicyShape → CasesShape → CasesShape → Result Deed Denial → Reply →
    Result (Unit {0}) (Fault NotStep) → Type 0
HasAdmitted p before after decision given (Ok done) = HasTakenStep p before after decision given
HasAdmitted p before after decision given (Err (Cause _)) = (after ≡ before) ×
    IsNoAnswer p before decision given
HasAdmitted p before after decision given (Err NoMemory) = (after ≡ before) ×
    MayLackMemoryFor before.spare decision

-- a view is asked for
abbrev pub is_view_deed : Deed → Bool
is_view_deed (deed.Work u) = true
is_view_deed (deed.WhatIf a) = true
is_view_deed d = false

-- the reply that tells a view
abbrev pub reply_of : View → Reply
reply_of (view.Work items) = reply.Work items
reply_of (view.WhatIf numbers) = reply.WhatIf numbers

-- a change of the policy comes with the case that it strands, and a view with its lists; no other
-- deed needs a verdict to take a reply
abbrev pub IsVerdictFor : Book → Deed → Verdict → Type 0
IsVerdictFor b (deed.Change a) (verdict.Strands n tree) =
    IsStrandingFor b (Ok (deed.Change a)) n tree
IsVerdictFor b (deed.Change a) v = ⊥
IsVerdictFor b (deed.Work u) (verdict.View v) = IsViewFor b (Ok (deed.Work u)) v
IsVerdictFor b (deed.Work u) v = ⊥
IsVerdictFor b (deed.WhatIf a) (verdict.View v) = IsViewFor b (Ok (deed.WhatIf a)) v
IsVerdictFor b (deed.WhatIf a) v = ⊥
IsVerdictFor b given v = Unit {0}
