-- Twins: what the test tells, chains of twins, and plans with twins exchanged.
use Rattle.std.proofs.Common.{◌≡◌, ◌≢◌, refl, sym, ap, subst, ◌∙◌, ℕ, zero, suc, ◌<◌, ◌≤◌, Bool, true, false, not, ◌&&◌, ◌||◌, ◌==◌, List, [], ◌∷◌, length, map}
use Rattle.std.proofs.Common.{Option, None, Some, slice_get, slice_set, eqb, leb, ◌⊎◌, inl, inr, arith}
use Rattle.std.proofs.lemmas.Bool.{false≢true}
use Rattle.std.proofs.lemmas.Bool.Decides.{eqb_tells, leb_tells}
use Rattle.std.proofs.lemmas.List.{length-map}
use Rattle.std.proofs.lemmas.Option.{slice_get_within}
use Rattle.basics.proofs.Booleans.{and_both, and_from, bool_cases, eq_is, eq_other, not_yes, or_left, or_right}
use Rattle.constraint_forms.specs.declared.rule.Rule.{Rule}
use Rattle.constraint_forms.specs.Assign.{user_at, planned}
use Rattle.constraint_forms.specs.Laws.{AreInterchangeable, AreTwinsFor, exchanged}
use Rattle.constraint_forms.proofs.Reading.{all_as_each, each_read}
use Rattle.constraint_forms.proofs.RuleLaws.{satisfied_by_named}
use Rattle.constraint_forms.proofs.Exchanges.{exchange_does_not_matter}
use Rattle.policy_book.specs.Laws.Plans.{Problem, IsValidPlan, IsWellFormed}
use Rattle.policy_book.specs.Laws.Twins.{agree, all_below, are_related_alike, are_twins, has_no_step, is_alike_to, is_given_to, is_rule_alike, may_do_the_same}
use Rattle.policy_book.specs.Laws.Twins.{treats_alike}
use Rattle.certificate_check.specs.Laws.{TwinsChain, TwinsExchange}
use Rattle.certificate_check.proofs.Assigned.{given_other, given_same, none_not_some, same_some}
use Rattle.certificate_check.proofs.Below.{agree_same, all_pass, each_passes, same_agree}

-- ---- what the test tells

pub record AreTwins (p : Problem) (a : List (Option ℕ)) (u v : ℕ) : Type 0 where
  pub first : (s : ℕ) → user_at a s ≢ Some u
  pub second : (s : ℕ) → user_at a s ≢ Some v
  pub steps : (s : ℕ) → s < p.steps → p.authorised s u ≡ p.authorised s v
  pub rules : (k : ℕ) (r : Rule) → slice_get p.rules k ≡ Some r → AreTwinsFor p.users p.related r u v

given_means : (o : Option ℕ) (u : ℕ) → not (is_given_to u o) ≡ true → o ≢ Some u
given_means o u h = grind (arith, none_not_some, false≢true, not_yes, eq_is, same_some)

means_given : (o : Option ℕ) (u : ℕ) → o ≢ Some u → not (is_given_to u o) ≡ true
means_given o u h = grind (arith, eq_other)

-- a step past the end has no user
past_none : (a : List (Option ℕ)) (s : ℕ) → length a ≤ s → user_at a s ≡ None
past_none [] s past = refl
past_none (o ∷ a) zero past = absurd (omega (arith, past))
past_none (o ∷ a) (suc s) past = past_none a s (omega (arith, past))

no_step_means : (a : List (Option ℕ)) (u : ℕ) → has_no_step a u ≡ true → (s : ℕ) → user_at a s ≢ Some u
no_step_means a u h s is = at (leb_tells (length a) s)
  where
    at : ((leb (length a) s ≡ true) × (length a ≤ s)) ⊎ ((leb (length a) s ≡ false) × (s < length a)) → ⊥
    at (inl past) = none_not_some u (sym (past_none a s past.1) ∙ is)
    at (inr below) = given_means (user_at a s) u (each_passes (length a) (λ t. not (is_given_to u (user_at a t))) h s below.1) is

means_no_step : (a : List (Option ℕ)) (u : ℕ) → ((s : ℕ) → user_at a s ≢ Some u) → has_no_step a u ≡ true
means_no_step a u none = all_pass (length a) (λ t. not (is_given_to u (user_at a t))) (λ s below. means_given (user_at a s) u (none s))

second_holds : (a b : Bool) → (a || b) ≡ true → a ≡ false → b ≡ true
second_holds a b h is = grind (arith, false≢true)

neither : (w u v : ℕ) → w ≢ u → w ≢ v → (w == u || w == v) ≡ false
neither w u v nu nv = ap (λ b. b || w == v) (eq_other w u nu) ∙ eq_other w v nv

alike_means : (users : ℕ) (holds : ℕ → ℕ → Bool) (u v : ℕ) → treats_alike users holds u v ≡ true → AreInterchangeable users holds u v
alike_means users holds u v h = record {
  towards = λ w below nu nv. agree_same (holds u w) (holds v w) (pair w below nu nv).0;
  «from» = λ w below nu nv. agree_same (holds w u) (holds w v) (pair w below nu nv).1;
  own = agree_same (holds u u) (holds v v) selves.0;
  mutually = agree_same (holds u v) (holds v u) selves.1;
}
  where
    test : ℕ → Bool
    test w = (w == u || w == v) || is_alike_to holds u v w

    both : (all_below users test ≡ true) × ((agree (holds u u) (holds v v) && agree (holds u v) (holds v u)) ≡ true)
    both = and_both (all_below users test) (agree (holds u u) (holds v v) && agree (holds u v) (holds v u)) h

    selves : (agree (holds u u) (holds v v) ≡ true) × (agree (holds u v) (holds v u) ≡ true)
    selves = and_both (agree (holds u u) (holds v v)) (agree (holds u v) (holds v u)) both.1

    pair : (w : ℕ) → w < users → w ≢ u → w ≢ v → (agree (holds u w) (holds v w) ≡ true) × (agree (holds w u) (holds w v) ≡ true)
    pair w below nu nv =
        and_both (agree (holds u w) (holds v w)) (agree (holds w u) (holds w v))
        (second_holds (w == u || w == v) (is_alike_to holds u v w) (each_passes users test both.0 w below) (neither w u v nu nv))

means_alike : (users : ℕ) (holds : ℕ → ℕ → Bool) (u v : ℕ) → AreInterchangeable users holds u v → treats_alike users holds u v ≡ true
means_alike users holds u v alike = grind (arith, and_from, all_pass, same_agree, eqb_tells, or_left, or_right)

rule_means : (p : Problem) (u v : ℕ) (o : Option Rule) → is_rule_alike p u v o ≡ true → (r : Rule) → o ≡ Some r → AreTwinsFor p.users p.related r u v
rule_means p u v o h r is = grind (arith, alike_means, each_read)

means_rule : (p : Problem) (u v : ℕ) (o : Option Rule) → ((r : Rule) → o ≡ Some r → AreTwinsFor p.users p.related r u v) → is_rule_alike p u v o ≡ true
means_rule p u v o each = grind (arith, all_as_each, means_alike)

pub twins_mean : (p : Problem) (a : List (Option ℕ)) (u v : ℕ) → are_twins p a u v ≡ true → AreTwins p a u v
twins_mean p a u v h =
    let both = and_both (has_no_step a u && has_no_step a v) (may_do_the_same p u v && are_related_alike p u v) h in
    let idle = and_both (has_no_step a u) (has_no_step a v) both.0 in
    let same = and_both (may_do_the_same p u v) (are_related_alike p u v) both.1 in record {
      first = no_step_means a u idle.0;
      second = no_step_means a v idle.1;
      steps = λ s below. agree_same (p.authorised s u) (p.authorised s v)
          (each_passes p.steps (λ t. agree (p.authorised t u) (p.authorised t v)) same.0 s below);
      rules = λ k r is.
          rule_means p u v (slice_get p.rules k)
          (each_passes (length p.rules) (λ j. is_rule_alike p u v (slice_get p.rules j)) same.1 k (slice_get_within p.rules k r is)) r is;
    }

pub mean_twins : (p : Problem) (a : List (Option ℕ)) (u v : ℕ) → AreTwins p a u v → are_twins p a u v ≡ true
mean_twins p a u v twins = grind (arith, and_from, means_no_step, all_pass, same_agree, means_rule)

-- ---- chains

alike_turned : (users : ℕ) (holds : ℕ → ℕ → Bool) (u v : ℕ) → AreInterchangeable users holds u v → AreInterchangeable users holds v u
alike_turned users holds u v alike = grind arith

pub twins_turned : (p : Problem) (a : List (Option ℕ)) (u v : ℕ) → AreTwins p a u v → AreTwins p a v u
twins_turned p a u v twins = grind (arith, alike_turned)

alike_chain : (users : ℕ) (holds : ℕ → ℕ → Bool) (u v w : ℕ) → u < users → v < users → w < users → AreInterchangeable users holds u v →
    AreInterchangeable users holds v w → AreInterchangeable users holds u w
alike_chain users holds u v w u_in v_in w_in one two = grind (arith, eqb_tells)

pub twins_chain : TwinsChain
twins_chain p a u v w u_in v_in w_in h k =
    let one = twins_mean p a u v h in
    let two = twins_mean p a v w k in
    mean_twins p a u w record {
      first = one.first;
      second = two.second;
      steps = λ s below. one.steps s below ∙ two.steps s below;
      rules = λ j r is rho read. alike_chain p.users (p.related rho) u v w u_in v_in w_in (one.rules j r is rho read) (two.rules j r is rho read);
    }

-- ---- plans

-- where a user goes
exchanged_other : (u v x : ℕ) → x ≢ u → x ≢ v → exchanged u v x ≡ x
exchanged_other u v x nu nv = rw (eq_other x u nu, eq_other x v nv) refl

exchanged_first : (u v : ℕ) → exchanged u v u ≡ v
exchanged_first u v = rw (eq_is u u refl) refl

-- what holds of both alike holds of whoever comes in place of a user
exchanged_same : (g : ℕ → Bool) (u v x : ℕ) → g u ≡ g v → g (exchanged u v x) ≡ g x
exchanged_same g u v x same = grind (arith, eqb_tells, exchanged_first, exchanged_other)

exchanged_below : (n u v x : ℕ) → u < n → v < n → x < n → exchanged u v x < n
exchanged_below n u v x u_in v_in x_in = grind (arith, bool_cases)

planned-map : (f : ℕ → ℕ) (plan : List ℕ) (s : ℕ) → s < length plan → planned (map f plan) s ≡ f (planned plan s)
planned-map f [] s below = absurd (omega (arith, below))
planned-map f (x ∷ xs) zero below = refl
planned-map f (x ∷ xs) (suc s) below = planned-map f xs s (omega (arith, below))

planned-past : (f : ℕ → ℕ) (plan : List ℕ) (s : ℕ) → length plan ≤ s → planned (map f plan) s ≡ planned plan s
planned-past f [] s past = refl
planned-past f (x ∷ xs) zero past = absurd (omega (arith, past))
planned-past f (x ∷ xs) (suc s) past = planned-past f xs s (omega (arith, past))

-- a user who is neither of the two stays where they are
planned_stays : (u v : ℕ) (plan : List ℕ) (s w : ℕ) → planned plan s ≡ w → w ≢ u → w ≢ v → planned (map (exchanged u v) plan) s ≡ w
planned_stays u v plan s w is nu nv = grind (arith, leb_tells, planned-past, planned-map, exchanged_other)

-- a plan that gives a step to one of two twins, with both exchanged
pub plan_exchanged : (p : Problem) (a : List (Option ℕ)) (done : List Bool) (s u v : ℕ) (plan : List ℕ) → IsWellFormed p → s < p.steps → s < length a →
    u < p.users → v < p.users → AreTwins p a u v →
    IsValidPlan p (slice_set a s (Some u)) done plan → IsValidPlan p (slice_set a s (Some v)) done (map (exchanged u v) plan)
plan_exchanged p a done s u v plan formed step room u_in v_in twins valid = record {
  whole = length-map plan (exchanged u v) ∙ valid.whole;
  known = λ t below. subst (λ w. w < p.users) (sym (at_step t below)) (exchanged_below p.users u v (planned plan t) u_in v_in (valid.known t below));
  keeps = λ t w is. ap Some (kept t w is (eqb_tells t s));
  allowed = λ t below unfinished.
      ap (p.authorised t) (at_step t below) ∙ exchanged_same (p.authorised t) u v (planned plan t) (twins.steps t below) ∙ valid.allowed t below unfinished;
  obeyed = λ k r is.
      satisfied_by_named p.related r (planned (map (exchanged u v) plan)) (λ t. exchanged u v (planned plan t)) (λ t named. at_step t (formed k r is t named))
      ∙ exchange_does_not_matter p.users p.related r (planned plan) u v (λ t named. valid.known t (formed k r is t named)) (twins.rules k r is)
      ∙ valid.obeyed k r is;
}
  where
    at_step : (t : ℕ) → t < p.steps → planned (map (exchanged u v) plan) t ≡ exchanged u v (planned plan t)
    at_step t below = planned-map (exchanged u v) plan t (omega (arith, below, valid.whole))

    here : planned plan s ≡ u
    here = same_some (planned plan s) u (valid.keeps s u (given_same a s u room))

    kept : (t w : ℕ) → user_at (slice_set a s (Some v)) t ≡ Some w → ((eqb t s ≡ true) × (t ≡ s)) ⊎ ((eqb t s ≡ false) × (t ≢ s)) →
        planned (map (exchanged u v) plan) t ≡ w
    kept t w is (inl same) =
        ap (planned (map (exchanged u v) plan)) same.1 ∙ at_step s step ∙ ap (exchanged u v) here ∙ exchanged_first u v
        ∙ same_some v w (sym (given_same a s v room) ∙ ap (user_at (slice_set a s (Some v))) (sym same.1) ∙ is)
    kept t w is (inr apart) =
        let held : user_at a t ≡ Some w = sym (given_other a s v t apart.1) ∙ is in
        planned_stays u v plan t w (same_some (planned plan t) w (valid.keeps t w (given_other a s u t apart.1 ∙ held)))
        (λ same. twins.first t (held ∙ ap Some same)) (λ same. twins.second t (held ∙ ap Some same))

pub twins_exchange : TwinsExchange
twins_exchange p a done s u v formed step room u_in v_in h =
    let twins = twins_mean p a u v h in (
      λ some. (map (exchanged u v) some.0, plan_exchanged p a done s u v some.0 formed step room u_in v_in twins some.1),
      λ some. (map (exchanged v u) some.0, plan_exchanged p a done s v u some.0 formed step room v_in u_in (twins_turned p a u v twins) some.1),
    )
