-- One step of a session: an ask, its reply, and the state after them.
use Rattle.std.specs.Prelude.{◌≡◌, ℕ, ◌+◌, [], ◌∷◌, ◌++◌, length, Result, Ok, Err, IsTrue}
use Rattle.std.proofs.Common.{◌⊎◌}
use Rattle.wf_names.specs.States.{is_done}
use Rattle.wf_names.specs.declared.states.StepState.TheVariants.{Free, Held}
use Rattle.wf_names.specs.declared.states.Phase.TheVariants.{Withdrawn}
use Rattle.constraint_forms.specs.Assign.{no_users, no_steps}
use Rattle.refutation_tree.specs.Laws.Views.{shape_of}
use Rattle.policy_book.specs.Policies.{flow_at, problem_of}
use Rattle.policy_book.specs.Laws.Plans.{IsValidPlan}
use Rattle.policy_book.specs.Laws.Refuting.{refutes}
use Rattle.case_record.specs.Cases.{CaseShape, finished_case, finished_of, fresh_case, with_phase}
use Rattle.case_record.specs.Cases.{with_state}
use Rattle.wf_talk.specs.declared.request.Ask.{Ask}
use Rattle.wf_talk.specs.declared.reply.Face.{Face}
use Rattle.wf_talk.specs.declared.reply.Reply.{Reply}
use Rattle.wf_talk.specs.declared.reply.Reply.TheVariants as reply
use Rattle.wf_talk.specs.declared.reply.Denial.{Denial}
use Rattle.wf_talk.specs.declared.reply.Denial.TheVariants as denial
use Rattle.admin_edits.specs.ClaimCauses.{assigned_with}
use Rattle.admin_edits.specs.declared.amendment.Amendment.{Amendment}
use Rattle.admin_edits.specs.Laws.Edits.{amended}
use Rattle.wf_board.specs.declared.deed.Deed.{Deed}
use Rattle.wf_board.specs.declared.deed.Deed.TheVariants as deed
use Rattle.wf_board.specs.Laws.States.{State, open_cases, with_case_changed}
use Rattle.wf_board.specs.Edition.{CanAllBeCompleted, IsFirstStranded}
use Rattle.wf_board.specs.Views.{AreStranded, IsWorkOf}
use Rattle.wf_board.specs.Decisions.{decision_of}

-- what is to be seen of a case
abbrev pub face_of : CaseShape → Face
face_of c = record { flow = c.flow; phase = c.phase; states = c.states }

-- the reply to a deed against which there is no cause
abbrev pub IsReplyTo : State → Deed → Reply → Type 0
IsReplyTo s given reply.NoMemory = Unit {0}
IsReplyTo s (deed.Open f) (reply.Opened n plan) = (n ≡ s.book.ever) ×
    IsValidPlan (problem_of s.book.policy f) no_users no_steps plan
IsReplyTo s (deed.Open f) (reply.Denied (denial.Unsatisfiable g tree)) =
    (g ≡ f) × IsTrue (refutes (problem_of s.book.policy f) no_users no_steps (shape_of tree))
IsReplyTo s (deed.Claim d) (reply.Granted plan) =
    IsValidPlan (problem_of s.book.policy d.case.flow) (assigned_with d.case d.step d.user)
    (finished_of d.case) plan
IsReplyTo s (deed.Claim d) (reply.Denied (denial.Stranded g tree)) =
    (g ≡ d.case.flow) × IsTrue (refutes (problem_of s.book.policy d.case.flow)
    (assigned_with d.case d.step d.user) (finished_of d.case) (shape_of tree))
IsReplyTo s (deed.Finish d) (reply.Finished done) =
    done ≡ is_done (finished_case d.case d.step).phase
IsReplyTo s (deed.GiveBack d) reply.Returned = Unit {0}
IsReplyTo s (deed.Release n c t) reply.Released = Unit {0}
IsReplyTo s (deed.Withdraw n) reply.Withdrawn = Unit {0}
IsReplyTo s (deed.Change a) (reply.Edited number) =
    (number ≡ s.edits + 1) × CanAllBeCompleted (amended s.book.policy a) (open_cases s.book.cases)
IsReplyTo s (deed.Change a) (reply.Denied (denial.Strands n f tree)) =
    IsFirstStranded (amended s.book.policy a) (open_cases s.book.cases) n f tree
IsReplyTo s (deed.Show c) (reply.Shown face) = face ≡ face_of c
IsReplyTo s (deed.Work u) (reply.Work items) = IsWorkOf s.book u items
IsReplyTo s (deed.WhatIf a) (reply.WhatIf numbers) =
    AreStranded (amended s.book.policy a) (open_cases s.book.cases) numbers
IsReplyTo s (deed.TurnAway bad) (reply.Bad b) = b ≡ bad
IsReplyTo s given answer = ⊥

-- the reply where the deed or the cause against it is this
abbrev pub Answers : State → Result Deed Denial → Reply → Type 0
Answers s (Ok given) answer = IsReplyTo s given answer
Answers s (Err d) answer = (answer ≡ reply.Denied d) ⊎ (answer ≡ reply.NoMemory)

-- the reply to what a line asks; want of memory may stand in place of any
abbrev pub IsStep : State → Ask → Reply → Type 0
IsStep s what answer = Answers s (decision_of s.book what) answer

-- how much of the room for more cases a reply takes: one place where a case was opened
abbrev pub room_taken : Reply → ℕ
room_taken (reply.Opened n plan) = 1
room_taken given = 0

-- with a fresh case of a workflow
abbrev pub with_opened : State → ℕ → State
with_opened s f = record s {
  book = record s.book {
    cases = s.book.cases ++ record {
      number = s.book.ever;
      case =
          fresh_case f (length (flow_at s.book.policy f).flow.steps);
    } ∷ [];
    ever = s.book.ever + 1;
  };
}

-- with one case changed
abbrev pub with_changed : State → ℕ → (CaseShape → CaseShape) → State
with_changed s n change =
    record s { book = record s.book { cases = with_case_changed n change s.book.cases } }

-- with a changed policy, and one more edit
abbrev pub with_edited : State → Amendment → State
with_edited s a =
    record { book = record s.book { policy = amended s.book.policy a }; edits = s.edits + 1 }

-- the state after a deed; all that a row does not name stays
abbrev pub state_after_deed : State → Deed → Reply → State
state_after_deed s (deed.Open f) (reply.Opened n plan) = with_opened s f
state_after_deed s (deed.Claim d) (reply.Granted plan) =
    with_changed s d.number (λ c. with_state c d.step (Held d.user))
state_after_deed s (deed.Finish d) (reply.Finished done) =
    with_changed s d.number (λ c. finished_case c d.step)
state_after_deed s (deed.GiveBack d) reply.Returned =
    with_changed s d.number (λ c. with_state c d.step Free)
state_after_deed s (deed.Release n c t) reply.Released = with_changed s n (λ c. with_state c t Free)
state_after_deed s (deed.Withdraw n) reply.Withdrawn =
    with_changed s n (λ c. with_phase c Withdrawn)
state_after_deed s (deed.Change a) (reply.Edited number) = with_edited s a
state_after_deed s given answer = s

-- the state where the deed or the cause against it is this
abbrev pub state_after_decision : State → Result Deed Denial → Reply → State
state_after_decision s (Ok given) answer = state_after_deed s given answer
state_after_decision s (Err d) answer = s

-- the state after what a line asks was answered
abbrev pub state_after_step : State → Ask → Reply → State
state_after_step s what answer = state_after_decision s (decision_of s.book what) answer
