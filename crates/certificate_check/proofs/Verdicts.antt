-- A plan has no first fault exactly where it is valid.
use Rattle.std.proofs.Common.{◌≡◌, ◌≢◌, ◌⊎◌, inl, inr, eqb, refl, sym, ap, subst, ◌∙◌, ℕ, zero, suc, ◌+◌, ◌<◌, ◌≤◌, ◌↔◌, Bool, true, false, ◌||◌, List, length}
use Rattle.std.proofs.Common.{Option, None, Some, Ok, IsOk, slice_get, if◌then◌else◌, arith}
use Rattle.std.specs.Bool.{IsTrue}
use Rattle.std.proofs.lemmas.Bool.{false≢true, eqb-true, eq-eqb}
use Rattle.std.proofs.lemmas.Bool.Decides.{eqb_tells}
use Rattle.std.proofs.lemmas.Option.{slice_get_within}
use Rattle.constraint_forms.specs.declared.rule.Rule.{Rule}
use Rattle.constraint_forms.specs.Assign.{user_at, planned, is_member}
use Rattle.constraint_forms.specs.Rules.{is_satisfied}
use Rattle.policy_book.specs.Laws.Plans.{Problem, IsValidPlan, IsWithin}
use Rattle.certificate_check.specs.Plan.{first_failing, is_kept, may_perform, is_obeyed, fault_else, plan_verdict}
use Rattle.certificate_check.specs.declared.plan.PlanFault.TheVariants.{Moved, Role, Rule as Rule_fault}
use Rattle.certificate_check.proofs.Assigned.{same_some, none_not_some}

-- where nothing fails, all pass
all_pass : (test : ℕ → Bool) (x k n : ℕ) → first_failing test k n ≡ None → k ≤ x → x < k + n → test x ≡ true
all_pass test x k zero none low high = absurd (omega (arith, low, high))
all_pass test x k (suc n) none low high =
    at (test k) refl none (eqb_tells k x) (λ e apart. all_pass test x (k + 1) n e (omega (arith, low, apart)) (omega (arith, high)))
  where
    at : (b : Bool) → test k ≡ b → (if b then first_failing test (k + 1) n else Some k) ≡ None → ((eqb k x ≡ true) × (k ≡ x)) ⊎
        ((eqb k x ≡ false) × (k ≢ x)) → (first_failing test (k + 1) n ≡ None → k ≢ x → test x ≡ true) → test x ≡ true
    at true is e (inl same) later = sym (ap test same.1) ∙ is
    at true is e (inr apart) later = later e apart.1
    at false is e place later = none_not_some k (sym e)

-- where all pass, nothing fails
none_fails : (test : ℕ → Bool) (k n : ℕ) → ((x : ℕ) → k ≤ x → x < k + n → test x ≡ true) → first_failing test k n ≡ None
none_fails test k zero pass = refl
none_fails test k (suc n) pass = grind (arith, (none_fails test (k + 1) n (λ x low high. pass x (omega (arith, low)) (omega (arith, high)))))

ok_parts : (x y z : Option ℕ) → IsOk (fault_else x Moved (fault_else y Role (fault_else z Rule_fault (Ok tt)))) → (x ≡ None) × (y ≡ None) × (z ≡ None)
ok_parts x y z ok = grind (arith, false≢true)

ok_whole : (x y z : Option ℕ) → x ≡ None → y ≡ None → z ≡ None → IsOk (fault_else x Moved (fault_else y Role (fault_else z Rule_fault (Ok tt))))
ok_whole x y z e f g = grind (arith, none_not_some)

kept_keeps : (o : Option ℕ) (w u : ℕ) → is_kept o w ≡ true → o ≡ Some u → w ≡ u
kept_keeps o w u kept is = grind (arith, none_not_some, eqb-true, same_some)

keeps_kept : (o : Option ℕ) (w : ℕ) → ((u : ℕ) → o ≡ Some u → Some w ≡ Some u) → is_kept o w ≡ true
keeps_kept o w keeps = grind (arith, eq-eqb, same_some)

may_authorised : (b c : Bool) → (b || c) ≡ true → b ≡ false → c ≡ true
may_authorised b c may unfinished = grind (arith, false≢true)

authorised_may : (b c : Bool) → (b ≡ false → c ≡ true) → (b || c) ≡ true
authorised_may b c allowed = grind arith

satisfied_obeyed : (p : Problem) (plan : List ℕ) (o : Option Rule) → ((r : Rule) → o ≡ Some r → IsTrue (is_satisfied p.related r (planned plan))) →
    is_obeyed p plan o ≡ true
satisfied_obeyed p plan o obeys = grind arith

pub verdict_tells : (p : Problem) (a : List (Option ℕ)) (done : List Bool) (plan : List ℕ) → length plan ≡ p.steps →
    ((s : ℕ) → s < length plan → planned plan s < p.users) → IsWithin p a → IsOk (plan_verdict p a done plan) ↔ IsValidPlan p a done plan
verdict_tells p a done plan whole users within = (forth, back)
  where
    forth : IsOk (plan_verdict p a done plan) → IsValidPlan p a done plan
    forth ok =
        let none = ok_parts (first_failing (λ s. is_kept (user_at a s) (planned plan s)) 0 p.steps) (first_failing (may_perform p done plan) 0 p.steps)
        (first_failing (λ k. is_obeyed p plan (slice_get p.rules k)) 0 (length p.rules)) ok in
        record {
          whole = whole;
          known = λ s below. users s (subst (λ n. s < n) (sym whole) below);
          keeps = λ s u is. ap Some (kept_keeps (user_at a s) (planned plan s) u
              (all_pass (λ t. is_kept (user_at a t) (planned plan t)) s 0 p.steps none.0 (omega arith) (omega (arith, within.steps s u is))) is);
          allowed = λ s below unfinished. may_authorised (is_member done s) (p.authorised s (planned plan s))
              (all_pass (may_perform p done plan) s 0 p.steps none.1 (omega arith) (omega (arith, below))) unfinished;
          obeyed = λ k r is. subst (λ o. is_obeyed p plan o ≡ true) is (all_pass (λ j. is_obeyed p plan (slice_get p.rules j)) k 0 (length p.rules) none.2
              (omega arith) (omega (arith, slice_get_within p.rules k r is)));
        }

    back : IsValidPlan p a done plan → IsOk (plan_verdict p a done plan)
    back valid = ok_whole _ _ _
        (none_fails (λ s. is_kept (user_at a s) (planned plan s)) 0 p.steps
        (λ s low high. keeps_kept (user_at a s) (planned plan s) (λ u is. valid.keeps s u is)))
        (none_fails (may_perform p done plan) 0 p.steps
        (λ s low high. authorised_may (is_member done s) (p.authorised s (planned plan s)) (valid.allowed s (omega (arith, high)))))
        (none_fails (λ k. is_obeyed p plan (slice_get p.rules k)) 0 (length p.rules)
        (λ k low high. satisfied_obeyed p plan (slice_get p.rules k) (valid.obeyed k)))
