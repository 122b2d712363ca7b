-- The steps of a case that a user would be granted, one after the other.
use Rattle.std.proofs.Common.{◌≡◌, ℕ, ◌+◌, ◌<◌, ◌≤◌, Bool, true, false, ◌&&◌, ◌||◌, ◌==◌, List, arith}
use Rattle.std.specs.Prelude.{MatchBool}
use Rattle.std.proofs.lemmas.Bool.{cases_eq}
use Rattle.basics.proofs.Booleans.{and-false, eq_above, eq_below, eq_same, or-false}
use Rattle.constraint_forms.specs.Assign.{is_member}
use Rattle.policy_book.specs.Laws.Shapes.{PolicyShape}
use Rattle.case_record.specs.Cases.{CaseShape}
use Rattle.wf_board.specs.Views.{IsGrantable}

and-true : (b : Bool) → (b && true) ≡ b
and-true b = grind arith

-- the step itself and those before it are told of
pub told_more : (p : PolicyShape) (u : ℕ) (c : CaseShape) (s : ℕ) (before after : List Bool) (b : Bool) →
    ((t : ℕ) → is_member after t ≡ (is_member before t || (b && t == s))) → MatchBool b (IsGrantable p c s u) (¬ IsGrantable p c s u) →
    ((t : ℕ) → t < s → MatchBool (is_member before t) (IsGrantable p c t u) (¬ IsGrantable p c t u)) → ((t : ℕ) → s ≤ t → is_member before t ≡ false) →
    (t : ℕ) → t < s + 1 → MatchBool (is_member after t) (IsGrantable p c t u) (¬ IsGrantable p c t u)
told_more p u c s before after b added told so_far rest t below = grind (arith, cases_eq, eq_same, and-true, eq_below, and-false, or-false)

-- no later step is in the set
pub rest_more : (s : ℕ) (before after : List Bool) (b : Bool) → ((t : ℕ) → is_member after t ≡ (is_member before t || (b && t == s))) →
    ((t : ℕ) → s ≤ t → is_member before t ≡ false) → (t : ℕ) → s + 1 ≤ t → is_member after t ≡ false
rest_more s before after b added rest t above = grind (arith, eq_above, and-false)
