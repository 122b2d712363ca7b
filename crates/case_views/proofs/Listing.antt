-- What views list of rows, one row after the other.
use Rattle.std.proofs.Common.{◌≡◌, ℕ, zero, suc, ◌+◌, ◌<◌, true, false, Bool, List, [], ◌∷◌, ◌++◌, length, take, get_or}
use Rattle.std.proofs.Common.{Option, None, sym, ap, subst, ◌∙◌, arith}
use Rattle.std.specs.Prelude.{MatchBool, is_some, option_map}
use Rattle.std.proofs.lemmas.List.{append-nil}
use Rattle.basics.proofs.Lists.{take_next}
use Rattle.wf_names.specs.States.{user_of}
use Rattle.wf_names.specs.declared.states.StepState.{StepState}
use Rattle.wf_names.specs.declared.states.StepState.TheVariants.{Free}
use Rattle.policy_book.specs.Laws.Shapes.{PolicyShape}
use Rattle.policy_book.specs.Policies.{problem_of}
use Rattle.policy_book.specs.Laws.Plans.{IsWellFormed}
use Rattle.certificate_check.proofs.Refuted.{refutes_soundly}
use Rattle.case_record.specs.Cases.{CaseShape, finished_of}
use Rattle.grant_table.specs.declared.rows.Row.{Row}
use Rattle.wf_talk.specs.declared.reply.Denial.{Denial}
use Rattle.wf_talk.specs.declared.reply.Denial.TheVariants.{Taken}
use Rattle.wf_talk.specs.declared.reply.WorkItem.{WorkItem}
use Rattle.admin_edits.specs.ClaimCauses.{assigned_with, first_cause, first_of}
use Rattle.wsp_solver.specs.Searches.{HasSolved}
use Rattle.wsp_solver.specs.declared.search.Outcome.{Outcome}
use Rattle.wf_board.specs.Edition.{CanBeCompleted}
use Rattle.wf_board.specs.Laws.Kept.{ArePlanned, EachRow}
use Rattle.wf_board.specs.Laws.States.{Numbered}
use Rattle.wf_board.specs.Views.{AreThose, IsGrantable, Place, item_of, steps_from, steps_of}
use Rattle.wf_board.proofs.Exact.{claimed_assigned}
use Rattle.case_views.specs.Listing.{AreGrantable, AreStrandedIn, HasListed, IsKeptRow, IsWorkIn, is_plan, open_in}
use Rattle.case_views.proofs.Editing.{open_append}
use Rattle.case_views.proofs.Lists.{place, steps_append, steps_more, those_append}

-- what holds of each row holds of one of them
each_in : (P : Row → Type 0) (rows : List Row) (i : ℕ) (r : Row) → i < length rows → r ≡ get_or rows i r → EachRow P rows → P r
each_in P [] i r below is each = absurd (omega arith)
each_in P (x ∷ xs) zero r below is each = subst P (sym is) each.0
each_in P (x ∷ xs) (suc i) r below is each = each_in P xs i r (omega arith) is each.1

-- one row of a table that is kept is kept
pub kept_row : (p : PolicyShape) (rows : List Row) (i : ℕ) (r : Row) → i < length rows → r ≡ get_or rows i r → ArePlanned p rows → IsKeptRow p r
kept_row p rows i r below is kept = grind (arith, each_in)

-- the work of two lists of steps
pub granted_append : (p : PolicyShape) (u : ℕ) (xs ys : List Place) (ns ms all : List WorkItem) → AreGrantable p u xs ns → AreGrantable p u ys ms →
    all ≡ ns ++ ms →
    AreGrantable p u (xs ++ ys) all
granted_append p u xs ys ns ms all first second same = grind (arith, those_append)

-- the work in the rows so far, with that in one more
pub work_more : (p : PolicyShape) (u : ℕ) (rows : List Row) (i : ℕ) (r : Row) (ns ms all : List WorkItem) → i < length rows → r ≡ get_or rows i r →
    IsWorkIn p u (take i rows) ns → IsWorkIn p u (r ∷ []) ms → all ≡ ns ++ ms → IsWorkIn p u (take (i + 1) rows) all
work_more p u rows i r ns ms all below is first second same =
    let places : steps_of (open_in (take (i + 1) rows)) ≡ steps_of (open_in (take i rows)) ++ steps_of (open_in (r ∷ [])) =
    ap steps_of (ap open_in (take_next rows i r below is) ∙ open_append (take i rows) (r ∷ [])) ∙ steps_append (open_in (take i rows)) (open_in (r ∷ [])) in
    subst (λ l. AreGrantable p u l all) (sym places)
    (granted_append p u (steps_of (open_in (take i rows))) (steps_of (open_in (r ∷ []))) ns ms all first second same)

-- a step of which nobody is told to have it is free
free_of : (x : StepState) (rest : List (Option Denial)) → first_of (option_map Taken (user_of x) ∷ rest) ≡ None → x ≡ Free
free_of x rest clear = grind arith

-- where nothing is against a claim, what was found of its case tells whether it would be granted
pub told_by : (p : PolicyShape) (c : CaseShape) (t u : ℕ) (o : Outcome) → IsWellFormed (problem_of p c.flow) → first_cause p c t u ≡ None →
    HasSolved (problem_of p c.flow) (assigned_with c t u) (finished_of c) o → MatchBool (is_plan o) (IsGrantable p c t u) (¬ IsGrantable p c t u)
told_by p c t u o well clear found = grind (arith, refutes_soundly, claimed_assigned, free_of)

-- where there is no cause
pub clear_of : (o : Option Denial) → is_some o ≡ false → o ≡ None
clear_of o is = grind arith

-- a step that would be granted is listed, another is not
pub granted_item : (p : PolicyShape) (u : ℕ) (e : Numbered) (t : ℕ) (c : CaseShape) (b : Bool) (before after : List WorkItem) → b ≡ true → c ≡ e.case →
    MatchBool b (IsGrantable p c t u) (¬ IsGrantable p c t u) → after ≡ before ++ item_of (place e t) ∷ [] → HasListed p u (place e t) before after
granted_item p u e t c b before after is same told added = grind arith

pub refused_item : (p : PolicyShape) (u : ℕ) (e : Numbered) (t : ℕ) (c : CaseShape) (b : Bool) (items : List WorkItem) → b ≡ false → c ≡ e.case →
    MatchBool b (IsGrantable p c t u) (¬ IsGrantable p c t u) → HasListed p u (place e t) items items
refused_item p u e t c b items is same told = grind (arith, append-nil)

-- the steps so far, with one more
pub step_more : (p : PolicyShape) (u : ℕ) (e : Numbered) (t : ℕ) (before after : List WorkItem) → AreGrantable p u (steps_from e t 0) before →
    HasListed p u (place e t) before after →
    AreGrantable p u (steps_from e (t + 1) 0) after
step_more p u e t before after first added =
    subst (λ l. AreGrantable p u l after) (sym (steps_more e t))
    (granted_append p u (steps_from e t 0) (place e t ∷ []) before added.0 after first added.1.1 added.1.0)

-- ---- stranded cases

-- the case cannot be completed, or can
abbrev pub stranded : PolicyShape → Numbered → Type 0
stranded p e = ¬ CanBeCompleted p e.case

abbrev pub kept : PolicyShape → Numbered → Type 0
kept p e = CanBeCompleted p e.case

-- the stranded cases among the rows so far, with one more row
pub stranded_more : (p : PolicyShape) (rows : List Row) (i : ℕ) (r : Row) (ns ms all : List ℕ) → i < length rows → r ≡ get_or rows i r →
    AreStrandedIn p (take i rows) ns → AreStrandedIn p (r ∷ []) ms → all ≡ ns ++ ms → AreStrandedIn p (take (i + 1) rows) all
stranded_more p rows i r ns ms all below is first second same =
    subst (AreStrandedIn p (take (i + 1) rows)) (sym same)
    (subst (λ es. AreThose (stranded p) (kept p) (λ e. e.number) es (ns ++ ms))
    (sym (ap open_in (take_next rows i r below is) ∙ open_append (take i rows) (r ∷ [])))
    (those_append (stranded p) (kept p) (λ e. e.number) (open_in (take i rows)) (open_in (r ∷ [])) ns ms first second))
