-- The search for a step that comes before another and is not finished.
use Rattle.std.proofs.Common.{◌≡◌, ℕ, suc, ◌+◌, ◌<◌, Bool, true, false, not, ◌&&◌, ◌⊎◌, List, length, drop, slice_index_or, Option, Some, if◌then◌else◌}
use Rattle.std.proofs.Common.{sym, subst, ◌∙◌, arith}
use Rattle.std.proofs.Math.Seq.{drop-cons}
use Rattle.std.proofs.lemmas.Bool.{cases_eq}
use Rattle.basics.specs.Laws.Pairs.{Pairs}
use Rattle.workflow_schema.specs.Flows.{is_before}
use Rattle.wf_names.specs.States.{is_finished}
use Rattle.wf_names.specs.declared.states.StepState.{StepState}
use Rattle.wf_names.specs.declared.states.StepState.TheVariants.{Free}
use Rattle.case_record.specs.Order.{first_missing_from}

-- one step of the search
searched : (order : Pairs) (s t : ℕ) (states : List StepState) (b : Bool) → t < length states →
    (is_before order t s && not (is_finished (slice_index_or states t Free))) ≡ b →
    first_missing_from order s t (drop t states) ≡ (if b then Some t else first_missing_from order s (t + 1) (drop (suc t) states))
searched order s t states b h is = grind (arith, drop-cons)

test_fails : (a b : Bool) → (a ≡ false) ⊎ (b ≡ true) → (a && not b) ≡ false
test_fails a b h2 = grind arith

-- a step that does not come before, or is finished, is passed over
pub passed_over :
    (order : Pairs) (s t : ℕ) (states : List StepState) (goal : Option ℕ) → t < length states →
    (is_before order t s ≡ false) ⊎ (is_finished (slice_index_or states t Free) ≡ true) →
    first_missing_from order s t (drop t states) ≡ goal →
    first_missing_from order s (t + 1) (drop (t + 1) states) ≡ goal
passed_over order s t states goal h either so_far =
    let same : suc t ≡ t + 1 = omega arith in
    let one = searched order s t states false h (test_fails _ _ either) in
    subst (λ n. first_missing_from order s (t + 1) (drop n states) ≡ goal) same (sym one ∙ so_far)

-- what is known below t and at t is known below t + 1
pub one_more : (P : ℕ → Type 0) (t : ℕ) → ((r : ℕ) → r < t → P r) → P t → (r : ℕ) → r < t + 1 → P r
one_more P t below here r h = grind (arith, cases_eq)
