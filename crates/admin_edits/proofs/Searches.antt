-- The search for a rule that is falsified, and for the roles of a step.
use Rattle.std.proofs.Common.{◌≡◌, ℕ, zero, suc, ◌+◌, ◌-◌, ◌<◌, Bool, true, false, List, [], ◌∷◌, ◌++◌, drop, slice_get, Option, Some, if◌then◌else◌, sym, ap}
use Rattle.std.proofs.Common.{subst, ◌∙◌, arith}
use Rattle.std.proofs.lemmas.List.{append_assoc}
use Rattle.constraint_forms.specs.declared.rule.Rule.{Rule}
use Rattle.constraint_forms.specs.Rules.{Relating, is_falsified}
use Rattle.policy_book.specs.Laws.Refuting.{passing}
use Rattle.policy_book.proofs.Passing.{passing_at}
use Rattle.admin_edits.specs.ClaimCauses.{first_falsified}

-- one rule of the search, of which the first has the number n
searched : (related : Relating) (users : ℕ → Option ℕ) (n : ℕ) (rules : List Rule) (k : ℕ) (rule : Rule) → slice_get rules k ≡ Some rule →
    first_falsified related users n
    (drop k rules) ≡ (if is_falsified related rule users then Some n else first_falsified related users (n + 1) (drop (suc k) rules))
searched related users n [] k rule here = cc
searched related users n (r ∷ rules) zero rule here = grind arith
searched related users n (r ∷ rules) (suc k) rule here = searched related users n rules k rule here

-- a rule that is falsified is the first where no earlier one is
pub found_rule : (related : Relating) (users : ℕ → Option ℕ) (k : ℕ) (rules : List Rule) (rule : Rule) (goal : Option ℕ) → slice_get rules k ≡ Some rule →
    is_falsified related rule users ≡ true → first_falsified related users k (drop k rules) ≡ goal → Some k ≡ goal
found_rule related users k rules rule goal here is so_far =
    ap (λ b. if b then Some k else first_falsified related users (k + 1) (drop (suc k) rules)) (sym is) ∙ sym (searched related users k rules k rule here) ∙
    so_far

-- a rule that is not falsified is passed over
pub passed_rule : (related : Relating) (users : ℕ → Option ℕ) (k : ℕ) (rules : List Rule) (rule : Rule) (goal : Option ℕ) → slice_get rules k ≡ Some rule →
    is_falsified related rule users ≡ false → first_falsified related users k (drop k rules) ≡ goal →
    first_falsified related users (k + 1) (drop (k + 1) rules) ≡ goal
passed_rule related users k rules rule goal here is so_far =
    let same : suc k ≡ k + 1 = omega arith in
    let one = ap (λ b. if b then Some k else first_falsified related users (k + 1) (drop (suc k) rules)) (sym is) ∙
    sym (searched related users k rules k rule here) in
    subst (λ n. first_falsified related users (k + 1) (drop n rules) ≡ goal) same (one ∙ so_far)

-- a number that passes is the next
pub passes : (test : ℕ → Bool) (k n : ℕ) (so_far goal : List ℕ) → k < n → test k ≡ true → so_far ++ passing test k (n - k) ≡ goal →
    (so_far ++ k ∷ []) ++ passing test (k + 1) (n - (k + 1)) ≡ goal
passes test k n so_far goal below is before = grind (arith, append_assoc, passing_at)

-- a number that does not pass is left out
pub fails : (test : ℕ → Bool) (k n : ℕ) (so_far goal : List ℕ) → k < n → test k ≡ false → so_far ++ passing test k (n - k) ≡ goal →
    so_far ++ passing test (k + 1) (n - (k + 1)) ≡ goal
fails test k n so_far goal below is before = grind (arith, passing_at)
