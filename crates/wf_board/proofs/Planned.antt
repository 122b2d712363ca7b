-- What a board keeps of its table, row by row.
use Rattle.wf_board.proofs.Common.{◌≡◌, ◌≢◌, ℕ, ◌+◌, ◌<◌, ◌⊎◌, inl, inr, Bool, true, false, List, [], ◌∷◌, ◌++◌, length, Option, None, Some, is_some, refl, sym}
use Rattle.wf_board.proofs.Common.{ap, subst, ◌∙◌, arith, eqb_tells, is_done, is_held, Free, Held, Withdrawn, PolicyShape, flow_at, problem_of, IsCompletable}
use Rattle.wf_board.proofs.Common.{IsValidPlan, CaseShape, assigned_of, finished_case, finished_of, fresh_case, is_open, state_at, with_phase, with_state, Row}
use Rattle.wf_board.proofs.Common.{CasesShape, case_in, change_row, open_rows, with_case, assigned_with, Duty, state_on, AreFound, ArePlanned, IsOfPolicy}
use Rattle.wf_board.proofs.Common.{IsPlanned, with_changed, with_opened, board_of, HasChanged, IsKept, Ask}
use Rattle.std.proofs.Common.{eqb, IsSomeAnd}
use Rattle.std.specs.Option.{option_map}
use Rattle.constraint_forms.specs.Assign.{no_steps, no_users}
use Rattle.grant_table.specs.Cases.{only, finished_row, freed_row, held_row, plan_while}
use Rattle.grant_table.specs.Cases.{with_row, withdrawn_row}
use Rattle.wf_board.specs.Laws.Found.{IsOpenAt}
use Rattle.wf_board.specs.Verdicts.{snap_rows}
use Rattle.wf_board.proofs.Rows.{changed_case, each_added, each_at, each_changed, each_only, each_open, numbered_added, numbered_changed, row_of_case}
use Rattle.wf_board.proofs.Rows.{there_added, there_changed, there_last}
use Rattle.wf_board.proofs.Valid.{valid_claimed, valid_finished, valid_freed, valid_fresh}
use Rattle.wf_board.proofs.Known.{of_policy_claimed, of_policy_finished, of_policy_freed, of_policy_fresh, of_policy_in_phase}

live_apart : {X : Type 0} (c : CaseShape) → is_open c ≡ true → is_open c ≡ false → X
live_apart c live closed = let is : true ≡ false = sym live ∙ closed in cc

none_planned : (p : PolicyShape) → ArePlanned p []
none_planned p = record { cases = tt; plans = tt }

-- a case is of a workflow of the policy
pub known_case : (p : PolicyShape) (rows : List Row) (n : ℕ) (c : CaseShape) → ArePlanned p rows → case_in n rows ≡ Some c → IsOfPolicy p c
known_case p rows n c planned here = grind (arith, row_of_case, each_at)

same_row : (a b : Row) → Some a ≡ Some b → a ≡ b
same_row a b h = cc

-- what is kept of one row
abbrev IsKeptRow : PolicyShape → CaseShape → Option (List ℕ) → Type 0
IsKeptRow p c plan = IsOfPolicy p c × IsPlanned p c plan

-- the row of one case changes, and the others stay
changed_keeps : (p : PolicyShape) (t : CasesShape) (n : ℕ) (c : CaseShape) (f : Row → Row) → IsKept p t → case_in n t.rows ≡ Some c →
    ((r : Row) → (f r).number ≡ r.number) →
    ((r : Row) → r.case ≡ c → IsOfPolicy p c → IsPlanned p c r.plan → IsKeptRow p (f r).case (f r).plan) →
    IsKept p (with_row t n f)
changed_keeps p t n c f kept here same change = grind (arith, each_changed, there_changed, row_of_case, same_row, known_case, each_at)

-- and so does the case of the state
changed_state : (p : PolicyShape) (t : CasesShape) (n : ℕ) (f : Row → Row) (g : CaseShape → CaseShape) → ((r : Row) → (f r).number ≡ r.number) →
    ((r : Row) → (f r).case ≡ g r.case) →
    (edits : ℕ) → state_on (board_of p (with_row t n f) edits) ≡ with_changed (state_on (board_of p t edits)) n g
changed_state p t n f g same changes edits = grind (arith, numbered_changed)

pub held_keeps : (p : PolicyShape) (t : CasesShape) (d : Duty) (plan : List ℕ) → IsKept p t → AreFound p t.rows d → state_at d.case d.step ≡ Free →
    IsValidPlan (problem_of p d.case.flow) (assigned_with d.case d.step d.user) (finished_of d.case) plan →
    HasChanged p t (with_row t d.number (held_row d.step d.user plan)) d.number (held_row d.step d.user plan) (λ c. with_state c d.step (Held d.user))
held_keeps p t d plan kept found free valid = record {
  kept = changed_keeps p t d.number d.case (held_row d.step d.user plan) kept found.case.found (λ r. refl)
      (λ r is known before. subst (λ c. IsKeptRow p (with_state c d.step (Held d.user)) (Some plan)) (sym is) (
        of_policy_claimed p d.case d.step d.user found.step found.user known,
        valid_claimed (problem_of p d.case.flow) d.case d.step d.user plan found.step free valid,
      ));
  next = changed_state p t d.number (held_row d.step d.user plan) (λ c. with_state c d.step (Held d.user)) (λ r. refl) (λ r. refl);
  rows = refl;
  spare = refl;
}

finished_planned : (p : PolicyShape) (c : CaseShape) (s : ℕ) (o : Option (List ℕ)) → is_open c ≡ true → is_held (state_at c s) ≡ true → IsPlanned p c o →
    (b : Bool) → is_open (finished_case c s) ≡ b → IsPlanned p (finished_case c s) (plan_while b o)
finished_planned p c s o live held planned false closed = closed
finished_planned p c s None live held planned true still = live_apart c live planned
finished_planned p c s (Some plan) live held planned true still = valid_finished (problem_of p c.flow) c s plan held planned

pub finished_keeps : (p : PolicyShape) (t : CasesShape) (n : ℕ) (c : CaseShape) (s : ℕ) → IsKept p t → IsOpenAt p t.rows n c → is_held (state_at c s) ≡ true →
    HasChanged p t (with_row t n (finished_row s)) n (finished_row s) (λ d. finished_case d s)
finished_keeps p t n c s kept found held = record {
  kept = changed_keeps p t n c (finished_row s) kept found.found (λ r. refl)
      (λ r is known before. subst (λ d. IsKeptRow p (finished_case d s) (plan_while (is_open (finished_case d s)) r.plan)) (sym is) (
        of_policy_finished p c s held known,
        finished_planned p c s r.plan found.live held before (is_open (finished_case c s)) refl,
      ));
  next = changed_state p t n (finished_row s) (λ d. finished_case d s) (λ r. refl) (λ r. refl);
  rows = refl;
  spare = refl;
}

freed_planned : (p : PolicyShape) (c : CaseShape) (s : ℕ) (o : Option (List ℕ)) → is_held (state_at c s) ≡ true → IsPlanned p c o →
    IsPlanned p (with_state c s Free) o
freed_planned p c s None held planned = planned
freed_planned p c s (Some plan) held planned = valid_freed (problem_of p c.flow) c s plan held planned

pub freed_keeps : (p : PolicyShape) (t : CasesShape) (n : ℕ) (c : CaseShape) (s : ℕ) → IsKept p t → IsOpenAt p t.rows n c → is_held (state_at c s) ≡ true →
    HasChanged p t (with_row t n (freed_row s)) n (freed_row s) (λ d. with_state d s Free)
freed_keeps p t n c s kept found held = record {
  kept = changed_keeps p t n c (freed_row s) kept found.found (λ r. refl)
      (λ r is known before. subst (λ d. IsKeptRow p (with_state d s Free) r.plan) (sym is) (
        of_policy_freed p c s held known,
        freed_planned p c s r.plan held before,
      ));
  next = changed_state p t n (freed_row s) (λ d. with_state d s Free) (λ r. refl) (λ r. refl);
  rows = refl;
  spare = refl;
}

pub withdrawn_keeps : (p : PolicyShape) (t : CasesShape) (n : ℕ) (c : CaseShape) → IsKept p t → IsOpenAt p t.rows n c →
    HasChanged p t (with_row t n withdrawn_row) n withdrawn_row (λ d. with_phase d Withdrawn)
withdrawn_keeps p t n c kept found = record {
  kept = changed_keeps p t n c withdrawn_row kept found.found (λ r. refl)
      (λ r is known before. subst (λ d. IsKeptRow p (with_phase d Withdrawn) None) (sym is) (of_policy_in_phase p c Withdrawn known, refl));
  next = changed_state p t n withdrawn_row (λ d. with_phase d Withdrawn) (λ r. refl) (λ r. refl);
  rows = refl;
  spare = refl;
}

-- the case with a number is there, with what is known of it
pub on_case : (P : CaseShape → Type 0) (rows : List Row) (n : ℕ) (c : CaseShape) → case_in n rows ≡ Some c → P c → IsSomeAnd (case_in n rows) P
on_case P rows n c here holds = subst (λ o. IsSomeAnd o P) (sym here) holds

-- whether a case is done once a step of it is finished
pub done_is : (rows : List Row) (n s : ℕ) (c : CaseShape) (done : Bool) → case_in n rows ≡ Some c →
    IsSomeAnd (case_in n (change_row n (finished_row s) rows)) (λ k. done ≡ is_done k.phase) → done ≡ is_done (finished_case c s).phase
done_is rows n s c done here after =
    subst (λ o. IsSomeAnd o (λ k. done ≡ is_done k.phase))
    (changed_case n (finished_row s) (λ k. finished_case k s) rows (λ r. refl) (λ r. refl) ∙ ap (option_map (λ k. finished_case k s)) here) after

-- ---- opening

pub opened_keeps : (p : PolicyShape) (t : CasesShape) (f : ℕ) (plan : List ℕ) → IsKept p t → f < length p.flows →
    IsValidPlan (problem_of p f) no_users no_steps plan →
    IsKept p (with_case t f (length (flow_at p f).flow.steps) plan)
opened_keeps p t f plan kept known valid =
    let steps = length (flow_at p f).flow.steps in
    let new : Row = record { number = t.ever; case = fresh_case f steps; plan = Some plan } in
    record {
      planned = record {
        cases = each_added (λ r. IsOfPolicy p r.case) t.rows new kept.planned.cases (of_policy_fresh p f known);
        plans = each_added (λ r. IsPlanned p r.case r.plan) t.rows new kept.planned.plans (valid_fresh (problem_of p f) f steps plan valid);
      };
      numbered = λ n below. at_number new n below refl (eqb_tells n t.ever);
    }
  where
    at_number : (new : Row) (n : ℕ) → n < t.ever + 1 → new.number ≡ t.ever → ((eqb n t.ever ≡ true) × (n ≡ t.ever)) ⊎
        ((eqb n t.ever ≡ false) × (n ≢ t.ever)) → is_some (case_in n (t.rows ++ new ∷ [])) ≡ true
    at_number new n below number (inl last) = there_last n t.rows new (number ∙ sym last.1)
    at_number new n below number (inr other) = there_added n t.rows new (kept.numbered n (omega (arith, below, other.1)))

pub opened_state : (p : PolicyShape) (t : CasesShape) (f : ℕ) (plan : List ℕ) (edits : ℕ) →
    state_on (board_of p (with_case t f (length (flow_at p f).flow.steps) plan) edits) ≡ with_opened (state_on (board_of p t edits)) f
opened_state p t f plan edits = grind (arith, numbered_added)

-- ---- completing

pub planned_open : (p : PolicyShape) (c : CaseShape) (o : Option (List ℕ)) → is_open c ≡ true → IsPlanned p c o →
    IsCompletable (problem_of p c.flow) (assigned_of c) (finished_of c)
planned_open p c o live planned = grind arith

-- an open case can be completed by its plan
pub plan_kept : (p : PolicyShape) (rows : List Row) (n : ℕ) (c : CaseShape) → ArePlanned p rows → case_in n rows ≡ Some c → is_open c ≡ true →
    IsCompletable (problem_of p c.flow) (assigned_of c) (finished_of c)
plan_kept p rows n c planned here live = grind (arith, row_of_case, planned_open, each_at)

-- ---- a snapshot

pub planned_only : (p : PolicyShape) (rows : List Row) (n : ℕ) → ArePlanned p rows → ArePlanned p (only n rows)
planned_only p rows n planned = grind (arith, each_only)

pub planned_live : (p : PolicyShape) (rows : List Row) → ArePlanned p rows → ArePlanned p (open_rows rows)
planned_live p rows planned = grind (arith, each_open)

pub planned_snap : (p : PolicyShape) (rows : List Row) (what : Ask) → ArePlanned p rows → ArePlanned p (snap_rows rows what)
planned_snap p rows what planned = grind (arith, planned_only, planned_live, none_planned)
