-- A refuting tree excludes every valid plan.
use Rattle.std.proofs.Common.{◌≡◌, ◌≢◌, refl, sym, ap, subst, ◌∙◌, ℕ, zero, suc, ◌+◌, ◌<◌, ◌≤◌, Bool, true, false, not, ◌&&◌, ◌==◌, List, [], ◌∷◌, Option, None}
use Rattle.std.proofs.Common.{Some, is_some, slice_get, slice_set, arith, eqb, leb, length, map, nat_lt, ◌⊎◌, inl, inr, if◌then◌else◌}
use Rattle.std.proofs.lemmas.Bool.{false≢true, ltb-true, eqb-true}
use Rattle.std.proofs.lemmas.Bool.Decides.{nat_tests, eqb_tells, leb_tells}
use Rattle.std.proofs.lemmas.List.{set_past}
use Rattle.constraint_forms.specs.declared.rule.Rule.{Rule}
use Rattle.constraint_forms.specs.Assign.{user_at, planned, is_member}
use Rattle.constraint_forms.specs.Laws.{exchanged}
use Rattle.constraint_forms.proofs.RuleLaws.{totals_decide, stays_falsified}
use Rattle.refutation_tree.specs.Tree.{Shape, Kids, holder, rule, node, no_kids, tree_kid, twin_kid}
use Rattle.policy_book.specs.Laws.Plans.{Problem, IsValidPlan, IsWellFormed, AreAssigned}
use Rattle.policy_book.specs.Laws.Twins.{are_twins, is_one_of}
use Rattle.policy_book.specs.Laws.Refuting.{refutes, all_refute, have_users, authorised_users, passing, is_misheld, is_broken, is_unassigned}
use Rattle.certificate_check.specs.Laws.{RefutesSoundly}
use Rattle.certificate_check.specs.Walks.{AreUsersBelow}
use Rattle.basics.proofs.Booleans.{and_both, not_yes}
use Rattle.certificate_check.proofs.TwinLaws.{plan_exchanged, twins_mean}
use Rattle.certificate_check.proofs.Trees.{passing_below}
use Rattle.certificate_check.proofs.Assigned.{not_some, none_not_some, same_some, given, given_other, either}

has_first : (u x : ℕ) (us : List ℕ) → u ≡ x → is_one_of (u ∷ us) x ≡ true
has_first u x us same = grind (arith, nat_tests)

has_later : (u x : ℕ) (us : List ℕ) → is_one_of us x ≡ true → is_one_of (u ∷ us) x ≡ true
has_later u x us later = grind (arith, nat_tests)

has_parts : (u x : ℕ) (us : List ℕ) → is_one_of (u ∷ us) x ≡ true → (u ≡ x) ⊎ (is_one_of us x ≡ true)
has_parts u x us h = grind (arith, nat_tests)

-- each number that passes is in the list of those
pub passing-has : (test : ℕ → Bool) (x : ℕ) → test x ≡ true → (k n : ℕ) → k ≤ x → x < k + n → is_one_of (passing test k n) x ≡ true
passing-has test x passes k zero low high = absurd (omega (arith, low, high))
passing-has test x passes k (suc n) low high =
    at (eqb_tells k x) (test k) refl (λ apart. passing-has test x passes (k + 1) n (omega (arith, apart)) (omega arith))
  where
    at : ((eqb k x ≡ true) × (k ≡ x)) ⊎ ((eqb k x ≡ false) × (k ≢ x)) → (b : Bool) → test k ≡ b → (k ≢ x → is_one_of (passing test (k + 1) n) x ≡ true) →
        is_one_of (if b then k ∷ passing test (k + 1) n else passing test (k + 1) n) x ≡ true
    at (inl same) true is later = has_first k x _ same.1
    at (inl same) false is later = absurd (false≢true (sym is ∙ ap test same.1 ∙ passes))
    at (inr apart) true is later = has_later k x _ (later apart.1)
    at (inr apart) false is later = later apart.1

-- the user who holds a step wrongly
misheld_found : (p : Problem) (finished : List Bool) (s : ℕ) (o : Option ℕ) → is_misheld p finished s o ≡ true → (u : ℕ) × (o ≡ Some u) ×
    (is_member finished s ≡ false) × (p.authorised s u ≡ false)
misheld_found p finished s o h = grind (arith, false≢true, and_both, not_yes)

-- no valid plan keeps a step with a user who is not authorised for it
misheld_excludes : (p : Problem) (assigned : List (Option ℕ)) (finished : List Bool) (s : ℕ) → s < p.steps →
    is_misheld p finished s (user_at assigned s) ≡ true → (plan : List ℕ) → IsValidPlan p assigned finished plan → ⊥
misheld_excludes p assigned finished s below h plan valid = grind (arith, misheld_found, same_some, false≢true)

-- no valid plan obeys a rule that is falsified
broken_excludes : (p : Problem) (assigned : List (Option ℕ)) (finished : List Bool) (k : ℕ) (o : Option Rule) → slice_get p.rules k ≡ o →
    is_broken p assigned o ≡ true → (plan : List ℕ) → IsValidPlan p assigned finished plan → ⊥
broken_excludes p assigned finished k None is h plan valid = false≢true h
broken_excludes p assigned finished k (Some r) is h plan valid =
    let final = stays_falsified p.related r (user_at assigned) (λ s. Some (planned plan s)) valid.keeps h in
    false≢true (sym (totals_decide p.related r (planned plan) ∙ ap not final) ∙ valid.obeyed k r is)

-- a step that is free is given its user in a valid plan, which stays valid
valid_given : (p : Problem) (assigned : List (Option ℕ)) (finished : List Bool) (plan : List ℕ) (s : ℕ) → IsValidPlan p assigned finished plan →
    IsValidPlan p (slice_set assigned s (Some (planned plan s))) finished plan
valid_given p assigned finished plan s valid = grind (arith, given)

-- a free step is not finished
free_open : (assigned : List (Option ℕ)) (finished : List Bool) (s : ℕ) → AreAssigned finished assigned → user_at assigned s ≡ None → (b : Bool) →
    is_member finished s ≡ b → b ≡ false
free_open assigned finished s all free b is = grind (arith, none_not_some)

-- what is finished stays assigned where a free step is given
pub assigned_given : (assigned : List (Option ℕ)) (finished : List Bool) (s u : ℕ) → AreAssigned finished assigned → user_at assigned s ≡ None →
    AreAssigned finished (slice_set assigned s (Some u))
assigned_given assigned finished s u all free = grind (arith, none_not_some, given_other)

-- no valid plan gives the step to one of some users
abbrev AreTried : Problem → List (Option ℕ) → List Bool → ℕ → List ℕ → Type 0
AreTried p assigned finished s users =
    (w : ℕ) → is_one_of users w ≡ true → (w < p.users) × ((plan : List ℕ) → IsValidPlan p (slice_set assigned s (Some w)) finished plan → ⊥)

one_more_tried : (p : Problem) (assigned : List (Option ℕ)) (finished : List Bool) (s v : ℕ) (users : List ℕ) →
    v < p.users → ((plan : List ℕ) → IsValidPlan p (slice_set assigned s (Some v)) finished plan → ⊥) → AreTried p assigned finished s users →
    AreTried p assigned finished s (v ∷ users)
one_more_tried p assigned finished s v users known none tried = grind (arith, either, has_parts)

-- a twin of a user who was tried is given the step in no valid plan
twin_excludes : (p : Problem) (assigned : List (Option ℕ)) (finished : List Bool) (s u v : ℕ) (users : List ℕ) → IsWellFormed p → s < p.steps →
    u < p.users → AreTried p assigned finished s users → is_one_of users v ≡ true → are_twins p assigned u v ≡ true → (plan : List ℕ) →
    IsValidPlan p (slice_set assigned s (Some u)) finished plan → ⊥
twin_excludes p assigned finished s u v users formed step known tried among twins plan valid = at (leb_tells (length assigned) s)
  where
    at : ((leb (length assigned) s ≡ true) × (length assigned ≤ s)) ⊎ ((leb (length assigned) s ≡ false) × (s < length assigned)) → ⊥
    at (inl past) =
        (tried v among).1 plan
        (subst (λ a. IsValidPlan p a finished plan) (set_past assigned s (Some u) past.1 ∙ sym (set_past assigned s (Some v) past.1)) valid)
    at (inr below) =
        (tried v among).1 (map (exchanged u v) plan)
        (plan_exchanged p assigned finished s u v plan formed step below.1 known (tried v among).0 (twins_mean p assigned u v twins) valid)

mutual
  refuted : (p : Problem) (assigned : List (Option ℕ)) (finished : List Bool) (tree : Shape) → IsWellFormed p → AreAssigned finished assigned →
      refutes p assigned finished tree ≡ true → (plan : List ℕ) → IsValidPlan p assigned finished plan → ⊥
  refuted p assigned finished (holder s) formed all h plan valid =
      let both = and_both _ _ h in
      misheld_excludes p assigned finished s (ltb-true _ _ both.0) both.1 plan valid
  refuted p assigned finished (rule k) formed all h plan valid = broken_excludes p assigned finished k (slice_get p.rules k) refl h plan valid
  refuted p assigned finished (node s kids) formed all h plan valid =
      let both = and_both (is_unassigned p assigned s) (have_users (authorised_users p s) kids && all_refute p assigned finished s [] kids) h in
      let rest = and_both (have_users (authorised_users p s) kids) (all_refute p assigned finished s [] kids) both.1 in
      let step = and_both (nat_lt s p.steps) (not (is_some (user_at assigned s))) both.0 in
      let below : s < p.steps = ltb-true s p.steps step.0 in
      let free : user_at assigned s ≡ None = not_some (user_at assigned s) step.1 in
      let unfinished = free_open assigned finished s all free (is_member finished s) refl in
      let may = valid.allowed s below unfinished in
      let there = passing-has (p.authorised s) (planned plan s) may 0 p.users (omega arith) (omega (arith, valid.known s below)) in
      kids_refuted p assigned finished s [] (authorised_users p s) kids formed below all free (λ w h. absurd (false≢true h))
      (passing_below (p.authorised s) 0 p.users p.users (omega arith) kids rest.0) rest.0 rest.1 plan valid there

  kids_refuted : (p : Problem) (assigned : List (Option ℕ)) (finished : List Bool) (s : ℕ) (earlier us : List ℕ) (kids : Kids) → IsWellFormed p →
      s < p.steps → AreAssigned finished assigned → user_at assigned s ≡ None → AreTried p assigned finished s earlier → AreUsersBelow p.users kids →
      have_users us kids ≡ true → all_refute p assigned finished s earlier kids ≡ true → (plan : List ℕ) → IsValidPlan p assigned finished plan →
      is_one_of us (planned plan s) ≡ true → ⊥
  kids_refuted p assigned finished s earlier [] kids formed step all free tried known users each plan valid there = false≢true there
  kids_refuted p assigned finished s earlier (u ∷ us) no_kids formed step all free tried known users each plan valid there = false≢true users
  kids_refuted p assigned finished s earlier (u ∷ us) (tree_kid v t kids) formed step all free tried known users each plan valid there =
      let same = and_both (u == v) (have_users us kids) users in
      let both = and_both (refutes p (slice_set assigned s (Some v)) finished t) (all_refute p assigned finished s (v ∷ earlier) kids) each in
      let none = λ (other : List ℕ) (valid : IsValidPlan p (slice_set assigned s (Some v)) finished other). refuted p (slice_set assigned s (Some v))
      finished t formed (assigned_given assigned finished s v all free) both.0 other valid in
      either (has_parts u (planned plan s) us there)
      (λ here. none plan (subst (λ w. IsValidPlan p (slice_set assigned s (Some w)) finished plan) (sym here ∙ eqb-true u v same.0)
      (valid_given p assigned finished plan s valid)))
      (λ later. kids_refuted p assigned finished s (v ∷ earlier) us kids formed step all free
      (one_more_tried p assigned finished s v earlier known.0 none tried) known.1 same.1 both.1 plan valid later)
  kids_refuted p assigned finished s earlier (u ∷ us) (twin_kid v w kids) formed step all free tried known users each plan valid there =
      let same = and_both (u == v) (have_users us kids) users in
      let both = and_both (is_one_of earlier w && are_twins p assigned v w) (all_refute p assigned finished s earlier kids) each in
      let twin = and_both (is_one_of earlier w) (are_twins p assigned v w) both.0 in
      either (has_parts u (planned plan s) us there)
      (λ here. twin_excludes p assigned finished s v w earlier formed step known.0 tried twin.0 twin.1 plan
      (subst (λ x. IsValidPlan p (slice_set assigned s (Some x)) finished plan) (sym here ∙ eqb-true u v same.0)
      (valid_given p assigned finished plan s valid)))
      (λ later. kids_refuted p assigned finished s earlier us kids formed step all free tried known.1 same.1 both.1 plan valid later)

pub refutes_soundly : RefutesSoundly
refutes_soundly p assigned finished tree formed all h some = refuted p assigned finished tree formed all h some.0 some.1
