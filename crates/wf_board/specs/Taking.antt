-- Inside: how a board answers over its policy and its table of cases.
use Rattle.std.specs.Prelude.{◌≡◌, ◌≢◌, ℕ, ◌+◌, ◌≤◌, Bool, false, true, List, Option, Result}
use Rattle.std.specs.Prelude.{IsTrue, None, Ok}
use Rattle.basics.specs.Laws.Reading.{◌>>=◌}
use Rattle.wf_names.specs.States.{is_held}
use Rattle.refutation_tree.specs.Laws.Views.{shape_of}
use Rattle.policy_book.specs.Laws.Shapes.{PolicyShape}
use Rattle.policy_book.specs.declared.course.Course.{Course}
use Rattle.policy_book.specs.Laws.Plans.{IsValidPlan, Problem}
use Rattle.policy_book.specs.Laws.Refuting.{refutes}
use Rattle.case_record.specs.Cases.{CaseShape, state_at}
use Rattle.grant_table.specs.declared.rows.Row.{Row}
use Rattle.grant_table.specs.Cases.{CasesShape, change_row}
use Rattle.wf_talk.specs.declared.request.Ask.{Ask}
use Rattle.wf_talk.specs.declared.reply.Reply.{Reply}
use Rattle.wf_talk.specs.declared.reply.Reply.TheVariants as reply
use Rattle.wf_talk.specs.declared.reply.Denial.{Denial}
use Rattle.admin_edits.specs.declared.amendment.Amendment.{Amendment}
use Rattle.admin_edits.specs.Laws.Edits.{amended}
use Rattle.wf_board.specs.declared.deed.Deed.{Deed}
use Rattle.wf_board.specs.declared.deed.Deed.TheVariants as deed
use Rattle.wf_board.specs.declared.verdict.Verdict.{Verdict}
use Rattle.wf_board.specs.declared.verdict.Verdict.TheVariants as verdict
use Rattle.wf_board.specs.declared.verdict.Answered.{Answered}
use Rattle.wf_board.specs.declared.verdict.Answered.TheVariants.{Done, Needs}
use Rattle.wf_board.specs.Laws.States.{Book}
use Rattle.wf_board.specs.Boards.{BoardShape, book_of, state_on}
use Rattle.wf_board.specs.Laws.KeptPlans.{rows_after}
use Rattle.wf_board.specs.Laws.Found.{IsFound, IsOpenAt}
use Rattle.wf_board.specs.Decisions.{cause_aside, cause_full, decision_of, needs_verdict}
use Rattle.wf_board.specs.Decisions.{takes_memory, unless_denied}
use Rattle.wf_board.specs.Laws.Steps.{Answers, room_taken, state_after_decision, with_changed}
use Rattle.wf_board.specs.Laws.Kept.{AreNumbered, ArePlanned, EachRow, IsPlanned}
use Rattle.wf_board.specs.Verdicts.{HasAnswered, HasUsed, MayLackMemory, is_opening, is_unusable}
use Rattle.wf_board.specs.Verdicts.{room_used}

-- what a board keeps of its table
pub record IsKept (p : PolicyShape) (t : CasesShape) : Type 0 where
  pub planned : ArePlanned p t.rows
  pub numbered : AreNumbered t.rows t.ever

-- a table is kept, and in it an open case stands at its number with a step that is held
pub record IsHeldAt (p : PolicyShape) (t : CasesShape) (n : ℕ) (c : CaseShape) (s : ℕ)
    : Type 0 where
  pub kept : IsKept p t
  pub found : IsOpenAt p t.rows n c
  pub held : is_held (state_at c s) ≡ true

-- a table is kept, the numbers of a deed are those of things that are there, and no cause is
-- against it, `full` of an opening aside
pub record IsUnhindered (p : PolicyShape) (t : CasesShape) (d : Deed) : Type 0 where
  pub kept : IsKept p t
  pub found : IsFound p t.rows d
  pub cause : cause_aside (book_of p t) d ≡ None

-- a board of a policy and a table
abbrev pub board_of : PolicyShape → CasesShape → ℕ → BoardShape
board_of p t edits = record { policy = p; cases = t; edits = edits }

-- a verdict by which the policy stays
abbrev pub keeps_policy : Verdict → Bool
keeps_policy (verdict.Edited edition) = false
keeps_policy v = true

-- a verdict that a reply can be made of, by which the policy stays
pub record IsUsable (v : Verdict) : Type 0 where
  pub given : v ≢ verdict.Nothing
  pub same : keeps_policy v ≡ true
  pub usable : is_unusable v ≡ false

-- a policy is that after a change, and each kept plan is valid under it
pub record KeepsAll (p : PolicyShape) (a : Amendment) (rows : List Row) (q : PolicyShape)
    : Type 0 where
  pub policy : q ≡ amended p a
  pub planned : EachRow (λ r. IsPlanned q r.case r.plan) rows

-- a deed, or the cause that no more cases can be opened
abbrev pub full_or : Book → Deed → Result Deed Denial
full_or b given = unless_denied given (cause_full b given)

-- no limit is against one more case of a workflow
abbrev pub HasRoomToOpen : Course → CasesShape → Type 0
HasRoomToOpen c t =
    full_or (book_of c.policy.now t) (deed.Open c.number) ≡ Ok (deed.Open c.number)

-- a deed, or the first cause against it
abbrev pub undenied : Book → Deed → Result Deed Denial
undenied b given = unless_denied given (cause_aside b given) >>= full_or b

-- a valid plan, or a tree that refutes
abbrev pub IsCertificateOf : Problem → List (Option ℕ) → List Bool → Verdict → Type 0
IsCertificateOf p assigned finished (verdict.Plan plan) = IsValidPlan p assigned finished plan
IsCertificateOf p assigned finished (verdict.Refuted tree) =
    IsTrue (refutes p assigned finished (shape_of tree))
IsCertificateOf p assigned finished v = ⊥

-- a step was taken, where the deed or the cause against it is this
pub record HasTakenStep (p : PolicyShape) (before after : CasesShape)
    (decision : Result Deed Denial) (given : Reply) : Type 0 where
  pub kept : IsKept p after
  pub step : (edits : ℕ) → Answers (state_on (board_of p before edits)) decision given
  pub next : (edits : ℕ) → state_on (board_of p after edits) ≡ state_after_decision
      (state_on (board_of p before edits)) decision given
  pub rows : after.rows ≡ rows_after p before decision given
  pub room : before.spare ≤ after.spare + room_taken given

-- a case was to be opened, there was no room for it, and nothing has changed
pub record LacksRoom (before after : CasesShape) (decision : Result Deed Denial) : Type 0 where
  pub opening : is_opening decision ≡ true
  pub none : before.spare ≡ 0
  pub unchanged : after ≡ before

-- one case was changed, and its row so
pub record HasChanged (p : PolicyShape) (before after : CasesShape) (n : ℕ) (row : Row → Row)
    (change : CaseShape → CaseShape) : Type 0 where
  pub kept : IsKept p after
  pub rows : after.rows ≡ change_row n row before.rows
  pub next : (edits : ℕ) → state_on (board_of p after edits) ≡ with_changed
      (state_on (board_of p before edits)) n change
  pub spare : after.spare ≡ before.spare

-- what needs no verdict was answered; what needs one was not, and nothing changed
abbrev pub HasAnsweredAlone : PolicyShape → CasesShape → CasesShape → Result Deed Denial →
    Answered → Type 0
HasAnsweredAlone p before after decision Needs = (needs_verdict decision ≡ true) × (after ≡ before)
HasAnsweredAlone p before after decision (Done given) =
    HasTakenStep p before after decision given
    × ((needs_verdict decision ≡ false) ×
    (given ≡ reply.NoMemory → (takes_memory decision ≡ true) × (after ≡ before)))

-- the rows are those that the deed leaves, where there is a reply
abbrev pub HasRowsAfter : PolicyShape → CasesShape → CasesShape → Result Deed Denial →
    Answered → Type 0
HasRowsAfter p before after decision Needs = after.rows ≡ before.rows
HasRowsAfter p before after decision (Done given) = after.rows ≡ rows_after p before decision given

-- all that a board promises of an answer
pub record HasAnsweredBy (p : PolicyShape) (before after : CasesShape) (what : Ask)
    (v : Verdict) (given : Answered) : Type 0 where
  pub kept : IsKept p after
  pub answered : (edits : ℕ) →
      HasAnswered (board_of p before edits) (board_of p after edits) what v given
  pub needs : needs_verdict (decision_of (book_of p before) what) ≡ true → v ≡ verdict.Nothing →
      given ≡ Needs
  pub made : needs_verdict (decision_of (book_of p before) what) ≡ true → HasUsed v given
  pub memory : (edits : ℕ) → given ≡ Done reply.NoMemory →
      MayLackMemory (board_of p before edits) what v
  pub lacking : given ≡ Done reply.NoMemory → after ≡ before
  pub rows : HasRowsAfter p before after (decision_of (book_of p before) what) given
  pub room : before.spare ≤ after.spare + room_used given
