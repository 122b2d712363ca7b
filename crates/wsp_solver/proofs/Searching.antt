-- What a search may conclude from what it has tried.
use Rattle.std.proofs.Common.{◌≡◌, ◌≢◌, refl, sym, ap, ◌∙◌, ℕ, zero, suc, ◌+◌, ◌-◌, ◌<◌, ◌≤◌, Bool, true, false, not, ◌&&◌, List, length, Option}
use Rattle.std.proofs.Common.{None, Some, is_some, slice_get, slice_set, if◌then◌else◌, arith, ◌⊎◌, inl, inr, eqb}
use Rattle.std.proofs.lemmas.Bool.{false≢true, lt-ltb}
use Rattle.std.proofs.lemmas.Bool.Decides.{eqb_tells, leb_tells}
use Rattle.std.proofs.lemmas.Option.{slice_get_past}
use Rattle.basics.proofs.Booleans.{and-false, bool_cases, second_false}
use Rattle.constraint_forms.specs.declared.rule.Rule.{Rule}
use Rattle.constraint_forms.specs.Assign.{user_at}
use Rattle.constraint_forms.proofs.RuleLaws.{totals_decide, falsified_by_named}
use Rattle.refutation_tree.specs.Tree.{Kids, no_kids}
use Rattle.refutation_tree.proofs.ShapeLaws.{joined-none}
use Rattle.policy_book.specs.Laws.Plans.{Problem, IsValidPlan, IsWellFormed, IsWithin}
use Rattle.policy_book.specs.Laws.Refuting.{have_users, passing, is_broken, is_rule_naming}
use Rattle.certificate_check.proofs.Assigned.{none_not_some, given_other, given_same}
use Rattle.policy_book.proofs.Passing.{passing_at}
use Rattle.wsp_solver.specs.Searches.{AreOfUsersBelow, IsAssignedPlan, NoLeafRefutes, NoLeafRefutesWithout, free_count}

-- ---- plans

-- a plan stays valid for less that is assigned
pub valid_without : (p : Problem) (a : List (Option ℕ)) (done : List Bool) (plan : List ℕ) (s u : ℕ) → user_at a s ≡ None →
    IsValidPlan p (slice_set a s (Some u)) done plan → IsValidPlan p a done plan
valid_without p a done plan s u free valid = grind (arith, given_other, none_not_some)

-- a holder whom no leaf refutes is authorised
held_rightly : (b c d : Bool) → (b && (not c && not d)) ≡ false → b ≡ true → c ≡ false → d ≡ true
held_rightly b c d h e f = grind (arith, false≢true)

-- an assignment of every step that no leaf refutes is a valid plan
pub valid_full : (p : Problem) (a : List (Option ℕ)) (done : List Bool) (plan : List ℕ) → IsWellFormed p → IsWithin p a → NoLeafRefutes p a done →
    IsAssignedPlan p.steps a plan → IsValidPlan p a done plan
valid_full p a done plan formed within none full = grind (arith, held_rightly, lt-ltb, totals_decide, falsified_by_named)

-- ---- leaves

-- a rule that does not name a step is falsified where it was before the step is given
broken_alike : (p : Problem) (a : List (Option ℕ)) (s u : ℕ) (o : Option Rule) → is_rule_naming s o ≡ false →
    is_broken p (slice_set a s (Some u)) o ≡ is_broken p a o
broken_alike p a s u o apart = grind (arith, falsified_by_named, given_other, false≢true)

-- where no leaf refutes, and a step is given to a user who is authorised for it, only a rule that names the step can
pub quiet_given : (p : Problem) (a : List (Option ℕ)) (done : List Bool) (s u : ℕ) → s < length a → p.authorised s u ≡ true → NoLeafRefutes p a done →
    NoLeafRefutesWithout p (slice_set a s (Some u)) done s
quiet_given p a done s u room may quiet = grind (arith, eqb_tells, broken_alike, and-false, given_same, given_other)

-- and where none does, no leaf refutes
pub quiet_again : (p : Problem) (a : List (Option ℕ)) (done : List Bool) (s : ℕ) → NoLeafRefutesWithout p a done s →
    ((k : ℕ) → k < length p.rules → (is_rule_naming s (slice_get p.rules k) && is_broken p a (slice_get p.rules k)) ≡ false) → NoLeafRefutes p a done
quiet_again p a done s others tried = grind (arith, leb_tells, bool_cases, slice_get_past, second_false)

-- ---- branches

pub users_skip : (test : ℕ → Bool) (u n : ℕ) (front : Kids) → u < n → test u ≡ false → AreOfUsersBelow test u n front → AreOfUsersBelow test (u + 1) n front
users_skip test u n front below fails so_far = grind (arith, passing_at)

pub users_end : (test : ℕ → Bool) (u n : ℕ) (front : Kids) → n ≤ u → AreOfUsersBelow test u n front → have_users (passing test 0 n) front ≡ true
users_end test u n front past so_far =
    let none : n - u ≡ zero = omega arith in
    ap (have_users (passing test 0 n)) (sym (joined-none front)) ∙ so_far no_kids (ap (λ k. have_users (passing test u k) no_kids) none)

-- ---- how much is left

abbrev zero_if : Bool → ℕ
zero_if b = if b then 0 else 1

count_other : (a : List (Option ℕ)) (s u n : ℕ) → n ≤ s → free_count (slice_set a s (Some u)) n ≡ free_count a n
count_other a s u zero below = refl
count_other a s u (suc n) below = grind (arith, given_other, (count_other a s u n (omega (arith, below))))

-- fewer steps are free once a free one is given
pub count_less : (a : List (Option ℕ)) (s u n : ℕ) → s < length a → user_at a s ≡ None → s < n → free_count (slice_set a s (Some u)) n < free_count a n
count_less a s u zero room free below = absurd (omega (arith, below))
count_less a s u (suc n) room free below = at (eqb_tells s n) (λ e. count_less a s u n room free e)
  where
    at : ((eqb s n ≡ true) × (s ≡ n)) ⊎ ((eqb s n ≡ false) × (s ≢ n)) → (s < n → free_count (slice_set a s (Some u)) n < free_count a n) →
        free_count (slice_set a s (Some u)) (suc n) < free_count a (suc n)
    at (inl same) later =
        let now : zero_if (is_some (user_at (slice_set a s (Some u)) n)) ≡ 0 =
        ap (λ k. zero_if (is_some (user_at (slice_set a s (Some u)) k))) (sym same.1) ∙ ap (λ o. zero_if (is_some o)) (given_same a s u room) in
        let before : zero_if (is_some (user_at a n)) ≡ 1 = ap (λ k. zero_if (is_some (user_at a k))) (sym same.1) ∙ ap (λ o. zero_if (is_some o)) free in
        omega (arith, now, before, count_other a s u n (omega (arith, same.1)))
    at (inr apart) later =
        let here : zero_if (is_some (user_at (slice_set a s (Some u)) n)) ≡ zero_if (is_some (user_at a n)) =
        ap (λ o. zero_if (is_some o)) (given_other a s u n (λ same. apart.1 (sym same))) in
        omega (arith, here, later (omega (arith, apart.1, below)))
