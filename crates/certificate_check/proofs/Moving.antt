-- A valid plan stays valid where one step goes to another user who is authorised and keeps the rules that name the step.
use Rattle.std.proofs.Common.{◌≡◌, ◌≢◌, ℕ, ◌<◌, Bool, true, false, ◌⊎◌, inl, inr, List, length, Option, Some, slice_get}
use Rattle.std.proofs.Common.{slice_set, sym, ap, subst, ◌∙◌, arith}
use Rattle.std.proofs.lemmas.Bool.Decides.{eqb_tells, leb_tells}
use Rattle.std.proofs.lemmas.List.{get_or-set_same, get_or-set_other, get_or_past, length-set}
use Rattle.std.proofs.lemmas.Option.{slice_get_within}
use Rattle.basics.proofs.Booleans.{bool_cases}
use Rattle.constraint_forms.specs.declared.rule.Rule.{Rule}
use Rattle.constraint_forms.specs.Assign.{planned, user_at}
use Rattle.constraint_forms.specs.Rules.{is_satisfied, names}
use Rattle.constraint_forms.proofs.RuleLaws.{satisfied_by_named}
use Rattle.policy_book.specs.Laws.Plans.{IsValidPlan, Problem}
use Rattle.certificate_check.specs.Plan.{keeps_rule}
use Rattle.certificate_check.proofs.Assigned.{given, given_same, none_not_some, same_some}

moved_here : (plan : List ℕ) (s u : ℕ) → s < length plan → planned (slice_set plan s u) s ≡ u
moved_here plan s u below = get_or-set_same plan s u 0 below

moved_other : (plan : List ℕ) (s u t : ℕ) → t ≢ s → planned (slice_set plan s u) t ≡ planned plan t
moved_other plan s u t apart = get_or-set_other plan s t u 0 apart

-- whoever is assigned is assigned to a step within the list
assigned_below : (a : List (Option ℕ)) (t w : ℕ) → user_at a t ≡ Some w → t < length a
assigned_below a t w is = grind (arith, leb_tells, none_not_some, get_or_past)

-- a rule that names a step and is kept is satisfied
kept_satisfied : (p : Problem) (plan : List ℕ) (s : ℕ) (rule : Rule) → keeps_rule p plan s (Some rule) ≡ true → names rule s ≡ true →
    is_satisfied p.related rule (planned plan) ≡ true
kept_satisfied p plan s rule kept named = rw named at kept

-- a valid plan with one step given to another user
pub moved_valid :
    (p : Problem) (plan : List ℕ) (s u : ℕ) → s < p.steps → u < p.users → p.authorised s u ≡ true →
    ((k : ℕ) → k < length p.rules → keeps_rule p (slice_set plan s u) s (slice_get p.rules k) ≡ true) →
    (a : List (Option ℕ)) (done : List Bool) → IsValidPlan p a done plan → IsValidPlan p (slice_set a s (Some u)) done (slice_set plan s u)
moved_valid p plan s u step user may kept a done valid = record {
  whole = length-set plan s u ∙ valid.whole;
  known = λ t below. elim (eqb_tells t s) [
    | inl same ↦ subst (λ w. w < p.users) (sym (here t same.1)) user
    | inr other ↦ subst (λ w. w < p.users) (sym (moved_other plan s u t other.1)) (valid.known t below)
  ];
  keeps = λ t w is. elim (eqb_tells t s) [
    | inl same ↦ ap Some (here t same.1 ∙ sym (mine t w same.1 is))
    | inr other ↦ ap Some (moved_other plan s u t other.1) ∙ valid.keeps t w (there t w other.1 (given a s u t w is))
  ];
  allowed = λ t below unfinished. elim (eqb_tells t s) [
    | inl same ↦ ap (p.authorised t) (here t same.1) ∙ ap (λ x. p.authorised x u) same.1 ∙ may
    | inr other ↦ ap (p.authorised t) (moved_other plan s u t other.1) ∙ valid.allowed t below unfinished
  ];
  obeyed = λ k rule is. elim (bool_cases (names rule s)) [
    | inl named ↦ kept_satisfied p (slice_set plan s u) s rule
        (ap (keeps_rule p (slice_set plan s u) s) (sym is) ∙ kept k (slice_get_within p.rules k rule is)) named
    | inr apart ↦ satisfied_by_named p.related rule (planned (slice_set plan s u)) (planned plan)
        (λ t named. moved_other plan s u t (λ same. unnamed rule t same named apart))
        ∙ valid.obeyed k rule is
  ];
}
  where
    within : s < length plan
    within = omega (arith, step, valid.whole)

    here : (t : ℕ) → t ≡ s → planned (slice_set plan s u) t ≡ u
    here t same = ap (planned (slice_set plan s u)) same ∙ moved_here plan s u within

    unnamed : (rule : Rule) (t : ℕ) → t ≡ s → names rule t ≡ true → names rule s ≡ false → ⊥
    unnamed rule t same named apart = let is : names rule s ≡ true = ap (names rule) (sym same) ∙ named in cc

    mine : (t w : ℕ) → t ≡ s → user_at (slice_set a s (Some u)) t ≡ Some w → w ≡ u
    mine t w same is = elim (given a s u t w is) [
      | inl both ↦ both.1
      | inr before ↦
          let below = assigned_below a s w (subst (λ x. user_at a x ≡ Some w) same before) in
          same_some w u (sym (subst (λ x. user_at (slice_set a s (Some u)) x ≡ Some w) same is) ∙ given_same a s u below)
    ]

    there : (t w : ℕ) → t ≢ s → ((t ≡ s) × (w ≡ u)) ⊎ (user_at a t ≡ Some w) → user_at a t ≡ Some w
    there t w apart (inl both) = absurd (apart both.0)
    there t w apart (inr before) = before
