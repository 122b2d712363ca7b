-- Under a change that makes no plan invalid the plans stay.
use Rattle.wf_board.proofs.Common.{◌≡◌, ℕ, ◌+◌, Bool, true, false, List, [], ◌∷◌, map, Option, None, Some, refl, sym, subst, arith, PolicyShape, CaseShape}
use Rattle.wf_board.proofs.Common.{assigned_of, finished_of, Row, CasesShape, Ask, Amendment, amended, IsKnownChange, unhurt_plans_stay_valid, Done, open_cases}
use Rattle.wf_board.proofs.Common.{numbered, state_on, CanAllBeCompleted, ArePlanned, EachRow, IsOfPolicy, IsPlanned, Answers, state_after_decision, IsKept}
use Rattle.wf_board.proofs.Common.{board_of, HasAnswered}
use Rattle.wf_talk.specs.declared.reply.Reply.TheVariants as reply
use Rattle.admin_edits.specs.Hurting.{may_hurt}
use Rattle.wf_board.specs.declared.deed.Deed.TheVariants as deed
use Rattle.wf_board.specs.declared.verdict.Verdict.TheVariants as verdict
use Rattle.wf_board.specs.Deeds.{HasSettled, IsUndecided, is_harmless}
use Rattle.wf_board.specs.Taking.{KeepsAll}
use Rattle.wf_board.proofs.Amended.{of_policy_amended}

hurts_none : (p : PolicyShape) (a : Amendment) (f : ℕ) (finished : List Bool) (plan : List ℕ) → is_harmless a ≡ true → may_hurt p a f finished plan ≡ false
hurts_none p a f finished plan h = grind arith

each_still : (P Q : Row → Type 0) (rows : List Row) → ((r : Row) → P r → Q r) → EachRow P rows → EachRow Q rows
each_still P Q [] still each = tt
each_still P Q (r ∷ rs) still each = (still r each.0, each_still P Q rs still each.1)

planned_still : (p : PolicyShape) (a : Amendment) (c : CaseShape) (o : Option (List ℕ)) → IsKnownChange p a → is_harmless a ≡ true → IsPlanned p c o →
    IsPlanned (amended p a) c o
planned_still p a c None found harmless planned = planned
planned_still p a c (Some plan) found harmless planned =
    unhurt_plans_stay_valid p a c.flow (assigned_of c) (finished_of c) plan found (hurts_none p a c.flow (finished_of c) plan harmless) planned

-- where each row is planned, all open cases can be completed
planned_complete : (p : PolicyShape) (rows : List Row) → EachRow (λ r. IsPlanned p r.case r.plan) rows → CanAllBeCompleted p (open_cases (map numbered rows))
planned_complete p [] planned = tt
planned_complete p (r ∷ rs) planned = grind (arith, (planned_complete p rs planned.1))

-- what a board then keeps, and what it has answered
abbrev pub HasChangedTo : PolicyShape → CasesShape → ℕ → Ask → PolicyShape → Type 0
HasChangedTo p t edits what q =
    IsKept q t × HasAnswered (board_of p t edits) (board_of q t (edits + 1)) what verdict.Nothing (Done (reply.Edited (edits + 1)))

-- the plans stay valid under a change that makes none invalid
pub harmless_keeps : (p : PolicyShape) (a : Amendment) (rows : List Row) → IsKnownChange p a → is_harmless a ≡ true →
    ArePlanned p rows → KeepsAll p a rows (amended p a)
harmless_keeps p a rows found harmless kept = grind (arith, each_still, planned_still)

pub unbroken_taken : (p q : PolicyShape) (t : CasesShape) (edits : ℕ) (what : Ask) (a : Amendment) → IsKept p t →
    IsUndecided p t what (deed.Change a) → KeepsAll p a t.rows q →
    HasChangedTo p t edits what q
unbroken_taken p q t edits what a kept is keeps =
    let planned = subst (λ (x : PolicyShape). EachRow (λ r. IsPlanned x r.case r.plan) t.rows) keeps.policy keeps.planned in
    let cases = each_still (λ r. IsOfPolicy p r.case) (λ r. IsOfPolicy (amended p a) r.case) t.rows
    (λ r known. of_policy_amended p a r.case is.found.found known) kept.planned.cases in
    let s = state_on (board_of p t edits) in
    let given = reply.Edited (edits + 1) in
    subst (HasChangedTo p t edits what) (sym keeps.policy) (
      record { planned = record { cases = cases; plans = planned }; numbered = kept.numbered },
      subst (λ r. Answers s r given × (state_on (board_of (amended p a) t (edits + 1)) ≡ state_after_decision s r given)) (sym is.decided)
          ((refl, planned_complete (amended p a) t.rows planned), refl),
    )

-- what a board then leaves: it keeps its plans and its room
pub change_settled : (p q : PolicyShape) (t : CasesShape) (edits : ℕ) (what : Ask) →
    HasAnswered (board_of p t edits) (board_of q t (edits + 1)) what verdict.Nothing (Done (reply.Edited (edits + 1))) →
    HasSettled (board_of p t edits) (board_of q t (edits + 1)) what verdict.Nothing (reply.Edited (edits + 1))
change_settled p q t edits what answered = grind arith
