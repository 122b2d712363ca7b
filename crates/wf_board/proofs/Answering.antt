-- What a board answers is a step of its state.
use Rattle.wf_board.proofs.Common.{◌≡◌, ℕ, ◌+◌, ◌<◌, ◌≤◌, inl, true, false, not, List, length, None, Some, Result, Ok, Err, refl, sym, ap, subst, ◌∙◌, arith}
use Rattle.wf_board.proofs.Common.{nat_tests, or_false, Tree, PolicyShape, IsValidPlan, flow_at, problem_of, CaseShape, Row, CasesShape, case_in, change_row}
use Rattle.wf_board.proofs.Common.{open_count, with_case, unless, Ask, Reply, Denial, amended, Amendment, AscendFrom, ArePlansOf, HoldsOf, IsAllowed, Deed}
use Rattle.wf_board.proofs.Common.{Answered, Done, EditionShape, book_of, state_on, rows_after, decision_aside, decision_of, unless_denied, Book, State}
use Rattle.wf_board.proofs.Common.{is_full, open_cases, Answers, state_after_decision, with_changed, board_of, full_or, HasChanged, HasTakenStep, IsKept}
use Rattle.wf_board.proofs.Common.{HasAnswered, IsEditionFor, IsStrandingFor, room_used, IsSoundPolicy, ArePlanned, IsSoundState, KeepsCompletable}
use Rattle.std.proofs.Common.{nat_le, is_err, OnErr}
use Rattle.constraint_forms.specs.Assign.{no_steps, no_users}
use Rattle.wf_names.specs.declared.limits.TheConstants.{CASE_LIMIT, OPEN_CASE_LIMIT}
use Rattle.wf_talk.specs.declared.reply.Reply.TheVariants as reply
use Rattle.wf_talk.specs.declared.reply.Denial.TheVariants.{Full, Strands}
use Rattle.grant_table.specs.Kept.{IsSoundTable}
use Rattle.wf_board.proofs.Amended.{IsChange, change_decided, edited_keeps, edited_state, edition_change, plans_complete, stranded_case, stranding_change}
use Rattle.wf_board.proofs.Amended.{with_plans}
use Rattle.wf_board.proofs.Told.{IsTold, aside_told}
use Rattle.wf_board.specs.declared.deed.Deed.TheVariants as deed
use Rattle.wf_board.specs.declared.verdict.Verdict.TheVariants as verdict
use Rattle.wf_board.proofs.Rows.{case_numbered, open_numbered}
use Rattle.wf_board.proofs.Planned.{known_case, opened_keeps, opened_state, plan_kept}

-- a step that changes one case
pub changed_taken : (p : PolicyShape) (before after : CasesShape) (n : ℕ) (f : Row → Row) (g : CaseShape → CaseShape) (decision : Result Deed Denial)
    (given : Reply) → HasChanged p before after n f g →
    ((edits : ℕ) → Answers (state_on (board_of p before edits)) decision given) → ((s : State) → state_after_decision s decision given ≡ with_changed s n g) →
    rows_after p before decision given ≡ change_row n f before.rows → HasTakenStep p before after decision given
changed_taken p before after n f g decision given changed step next rows = record {
  kept = changed.kept;
  step = step;
  next = λ edits. changed.next edits ∙ sym (next (state_on (board_of p before edits)));
  rows = changed.rows ∙ sym rows;
  room = let same = changed.spare in omega (arith, same);
}

-- a step that changes nothing
pub same_taken : (p : PolicyShape) (t : CasesShape) (decision : Result Deed Denial) (given : Reply) → IsKept p t →
    ((edits : ℕ) → Answers (state_on (board_of p t edits)) decision given) → ((s : State) → state_after_decision s decision given ≡ s) →
    rows_after p t decision given ≡ t.rows → HasTakenStep p t t decision given
same_taken p t decision given kept step next rows = grind arith

-- a denial
pub denied_taken : (p : PolicyShape) (t : CasesShape) (d : Denial) → IsKept p t → HasTakenStep p t t (Err d) (reply.Denied d)
denied_taken p t d kept = same_taken p t (Err d) (reply.Denied d) kept (λ edits. inl refl) (λ s. refl) refl

-- ---- full

pub full_denied : (b : Book) (f : ℕ) → is_full b ≡ true → full_or b (deed.Open f) ≡ Err Full
full_denied b f full = ap (λ x. unless_denied (deed.Open f) (unless (not x) Full)) full

pub room_left : (b : Book) (f : ℕ) → is_full b ≡ false → full_or b (deed.Open f) ≡ Ok (deed.Open f)
room_left b f left = ap (λ x. unless_denied (deed.Open f) (unless (not x) Full)) left

less_than : (a b : ℕ) → nat_le a b ≡ false → b < a
less_than a b h = grind (arith, nat_tests)

-- below both limits
pub below_limits : (p : PolicyShape) (t : CasesShape) → is_full (book_of p t) ≡ false → (open_count t.rows < OPEN_CASE_LIMIT) × (t.ever < CASE_LIMIT)
below_limits p t left = grind (arith, or_false, open_numbered, less_than)

pub on_err : {A E P : Type 0} (r : Result A E) → is_err r ≡ true → OnErr r P → P
on_err r h on = grind arith

kept_with_room : (p : PolicyShape) (t : CasesShape) (more : ℕ) → IsKept p t → IsKept p (record t { spare = more })
kept_with_room p t more kept = record { planned = kept.planned; numbered = kept.numbered }

-- a case is opened, once there is room for it
pub opened_taken : (p : PolicyShape) (t roomy after : CasesShape) (f n : ℕ) (plan : List ℕ) → IsKept p t → f < length p.flows →
    IsValidPlan (problem_of p f) no_users no_steps plan →
    is_full (book_of p t) ≡ false → roomy ≡ record t { spare = roomy.spare } → t.spare ≤ roomy.spare → n ≡ roomy.ever →
    after ≡ with_case roomy f (length (flow_at p f).flow.steps) plan → HasTakenStep p t after (full_or (book_of p t) (deed.Open f)) (reply.Opened n plan)
opened_taken p t roomy after f n plan kept known valid left same more number is =
    let steps = length (flow_at p f).flow.steps in
    let grown = record t { spare = roomy.spare } in
    let end : after ≡ with_case grown f steps plan = is ∙ ap (λ (x : CasesShape). with_case x f steps plan) same in
    subst (λ d. HasTakenStep p t after d (reply.Opened n plan)) (sym (room_left (book_of p t) f left))
    (subst (λ (x : CasesShape). HasTakenStep p t x (Ok (deed.Open f)) (reply.Opened n plan)) (sym end) record {
      kept = opened_keeps p grown f plan (kept_with_room p t roomy.spare kept) known valid;
      step = λ edits. (number ∙ ap (λ (x : CasesShape). x.ever) same, valid);
      next = λ edits. opened_state p grown f plan edits;
      rows = refl;
      room = let one : t.spare ≤ (with_case grown f steps plan).spare + 1 = omega (arith, more) in one;
    })

-- ---- edits

-- a denial by a case that would be stranded
pub stranding_taken : (p : PolicyShape) (t : CasesShape) (what : Ask) (n f : ℕ) (tree : Tree) → IsKept p t → AscendFrom 0 t.rows →
    IsStrandingFor (book_of p t) (decision_aside (book_of p t) what) n tree →
    ((c : CaseShape) → case_in n t.rows ≡ Some c → f ≡ c.flow) → HasTakenStep p t t (decision_of (book_of p t) what) (reply.Denied (Strands n f tree))
stranding_taken p t what n f tree kept order is flow = grind (arith, stranding_change, stranded_case, change_decided, same_taken)

-- the case that would be stranded is there
pub stranding_there : {X : Type 0} (p : PolicyShape) (t : CasesShape) (what : Ask) (n : ℕ) (tree : Tree) → AscendFrom 0 t.rows →
    IsStrandingFor (book_of p t) (decision_aside (book_of p t) what) n tree → case_in n t.rows ≡ None → X
stranding_there p t what n tree order is none = grind (arith, stranding_change, stranded_case)

-- an edit is accepted: what the board then keeps, and what it has answered
abbrev pub HasEdited : PolicyShape → CasesShape → ℕ → Ask → EditionShape → PolicyShape → CasesShape → Type 0
HasEdited p before edits what edition q after =
    IsKept q after × HasAnswered (board_of p before edits) (board_of q after (edits + 1)) what (verdict.Edited edition) (Done (reply.Edited (edits + 1)))

pub edition_taken : (p q : PolicyShape) (before after : CasesShape) (edits live : ℕ) (what : Ask) (edition : EditionShape) → IsKept p before → IsSoundPolicy p →
    IsSoundTable before.rows before.ever live → IsEditionFor (book_of p before) (decision_aside (book_of p before) what) edition →
    q ≡ edition.policy → after ≡ with_plans before edition.plans → HasEdited p before edits what edition q after
edition_taken p q before after edits live what edition kept sound rows is policy plans =
    subst (λ x. HasEdited p before edits what edition x after) (sym (policy ∙ change.policy))
    (subst (HasEdited p before edits what edition (amended p a)) (sym plans) (
      edited_keeps p before a edition.plans kept its.found rows.planned valid,
      subst (λ r. Answers s r given × (state_on (board_of (amended p a) (with_plans before edition.plans) (edits + 1)) ≡ state_after_decision s r given))
          (sym (change_decided b what a change.decided))
          ((refl, plans_complete (amended p a) (open_cases b.cases) edition.plans valid), edited_state p before a edition.plans edits),
    ))
  where
    b : Book
    b = book_of p before

    s : State
    s = state_on (board_of p before edits)

    given : Reply
    given = reply.Edited (edits + 1)

    change : IsChange b (decision_aside b what) edition
    change = edition_change b (decision_aside b what) edition is

    a : Amendment
    a = change.amendment

    its : IsAllowed p a
    its = (subst (HoldsOf (IsTold b)) change.decided (aside_told b what)).0 sound

    valid : ArePlansOf (amended p a) (open_cases b.cases) edition.plans
    valid = subst (λ x. ArePlansOf x (open_cases b.cases) edition.plans) change.policy change.plans

-- ---- answers

-- an answer takes one place at most
pub one_at_most : (before after : ℕ) (given : Answered) → before ≤ after + room_used given → before ≤ after + 1
one_at_most before after given room = grind arith

-- ---- the state of a board

pub board_sound : (p : PolicyShape) (t : CasesShape) (edits : ℕ) → IsSoundPolicy p → ArePlanned p t.rows → IsSoundState (state_on (board_of p t edits))
board_sound p t edits sound planned = record {
  policy = sound;
  cases = λ n c here. known_case p t.rows n c planned (sym (case_numbered n t.rows) ∙ here);
}

pub board_completes : (p : PolicyShape) (t : CasesShape) (edits : ℕ) → ArePlanned p t.rows → KeepsCompletable (state_on (board_of p t edits))
board_completes p t edits planned n c here live = plan_kept p t.rows n c planned (sym (case_numbered n t.rows) ∙ here) live
