-- Which plans are whole without some users.
use Rattle.std.proofs.Common.{◌≡◌, refl, sym, ap, ◌∙◌, ℕ, zero, suc, ◌+◌, ◌<◌, ◌≤◌, Bool, true, false, not, ◌&&◌, ◌||◌, ◌==◌, List, [], ◌∷◌, ◌++◌}
use Rattle.std.proofs.Common.{length, ◌⊎◌, inl, inr, arith, subst}
use Rattle.std.proofs.Math.Bool.{or_assoc}
use Rattle.std.proofs.lemmas.Bool.{false≢true, eqb-true}
use Rattle.basics.proofs.Booleans.{or_cases, or_left, or_right, not_true, not_yes, not_false, differ, bool_cases, or-false}
use Rattle.constraint_forms.specs.Assign.{planned}
use Rattle.policy_book.specs.Laws.Twins.{all_below, is_one_of}
use Rattle.certificate_check.proofs.Below.{all_pass, each_passes}
use Rattle.resilience_check.specs.Covering.{is_whole, leaves_some}
use Rattle.resilience_check.specs.Lists.{CanBreak, IsWholeIn, Withstands}
use Rattle.resilience_check.proofs.Ones.{one_append, one_beside, one_here, removed, length-removed, stays_one, was_one}

-- the first that fails before others do, where not all pass
both_not : (a b : Bool) → (a && b) ≡ false → b ≡ true → a ≡ false
both_not true b h e = absurd (differ b e h)
both_not false b h e = refl

pub one_fails_of : (n : ℕ) (test : ℕ → Bool) → all_below n test ≡ false → (s : ℕ) × (s < n) × (test s ≡ false)
one_fails_of zero test h = absurd (false≢true (sym h))
one_fails_of (suc n) test h = elim (bool_cases (test n)) [
  | inl passes ↦ let before = one_fails_of n test (both_not (all_below n test) (test n) h passes) in (before.0, omega (arith, before.1), before.2)
  | inr fails ↦ (n, omega arith, fails)
]

-- a plan that is whole without some users is whole without fewer
pub whole_fewer : (plan a b : List ℕ) → ((s : ℕ) → s < length plan → is_one_of a (planned plan s) ≡ true → is_one_of b (planned plan s) ≡ true)
    → is_whole b plan ≡ true → is_whole a plan ≡ true
whole_fewer plan a b fewer whole =
    all_pass (length plan) (λ s. not (is_one_of a (planned plan s))) (λ s below.
    let free = not_yes (is_one_of b (planned plan s)) (each_passes (length plan) (λ t. not (is_one_of b (planned plan t))) whole s below) in
    ap not (not_true (is_one_of a (planned plan s)) (λ one. differ (is_one_of b (planned plan s)) (fewer s below one) free)))

pub leaves_fewer : (plans : List (List ℕ)) (a b : List ℕ) → ((u : ℕ) → is_one_of a u ≡ true → is_one_of b u ≡ true) → leaves_some plans b ≡ true
    → leaves_some plans a ≡ true
leaves_fewer [] a b fewer h = absurd (false≢true h)
leaves_fewer (plan ∷ plans) a b fewer h = elim (or_cases (is_whole b plan) (leaves_some plans b) h) [
  | inl here ↦ or_left (is_whole a plan) (leaves_some plans a) (whole_fewer plan a b (λ s _ one. fewer (planned plan s) one) here)
  | inr later ↦ or_right (is_whole a plan) (leaves_some plans a) (leaves_fewer plans a b fewer later)
]

-- lists of the same users
pub leaves_alike : (plans : List (List ℕ)) (a b : List ℕ) → ((u : ℕ) → is_one_of a u ≡ is_one_of b u) → leaves_some plans a ≡ leaves_some plans b
leaves_alike plans a b same = at (bool_cases (leaves_some plans b))
  where
    at : (leaves_some plans b ≡ true) ⊎ (leaves_some plans b ≡ false) → leaves_some plans a ≡ leaves_some plans b
    at (inl left) = leaves_fewer plans a b (λ u h. sym (same u) ∙ h) left ∙ sym left
    at (inr none) = not_true (leaves_some plans a) (λ left. differ (leaves_some plans b) (leaves_fewer plans b a (λ u h. same u ∙ h) left) none)
        ∙ sym none

-- with more users away some user of a whole plan is among them, or the plan stays whole: so what is
-- withstood with each user of the plan away too is withstood
pub withstands_by : (plans : List (List ℕ)) (away : List ℕ) (k most : ℕ) (plan : List ℕ) → IsWholeIn plans away plan →
    ((s : ℕ) → s < length plan → k ≤ planned plan s → Withstands plans (planned plan s ∷ away) k most) → Withstands plans away k (most + 1)
withstands_by plans away k most plan whole each more from_on few = elim (bool_cases (is_whole (more ++ away) plan)) [
  | inl stays ↦ whole.among (more ++ away) stays
  | inr hit ↦
      let at = one_fails_of (length plan) (λ s. not (is_one_of (more ++ away) (planned plan s))) hit in
      let u = planned plan at.0 in
      let away_too : is_one_of (more ++ away) u ≡ true = not_false (is_one_of (more ++ away) u) at.2 in
      let free : is_one_of away u ≡ false = not_yes (is_one_of away u)
      (each_passes (length plan) (λ s. not (is_one_of away (planned plan s))) whole.whole at.0 at.1) in
      let here : is_one_of more u ≡ true = elim (or_cases (is_one_of more u) (is_one_of away u)
      (sym (one_append more away u) ∙ away_too)) [ inl one ↦ one | inr one ↦ absurd (differ (is_one_of away u) one free) ] in
      let count = length-removed u more here in
      let less : length (removed u more) ≤ most = omega (arith, count, few) in
      leaves_fewer plans (more ++ away) (removed u more ++ (u ∷ away)) (λ w one. moved u w one)
      (each at.0 at.1 (from_on u here) (removed u more) (λ w one. from_on w (was_one u w more one)) less)
]
  where
    moved : (u w : ℕ) → is_one_of (more ++ away) w ≡ true → is_one_of (removed u more ++ (u ∷ away)) w ≡ true
    moved u w one = one_append (removed u more) (u ∷ away) w ∙ elim (or_cases (is_one_of more w) (is_one_of away w)
        (sym (one_append more away w) ∙ one)) [
          | inl among ↦ elim (stays_one u w more among) [
            | inl same ↦ or_right (is_one_of (removed u more) w) (is_one_of (u ∷ away) w)
                (subst (λ x. is_one_of (u ∷ away) x ≡ true) (sym same) (one_here u away))
            | inr left ↦ or_left (is_one_of (removed u more) w) (is_one_of (u ∷ away) w) left
          ]
          | inr gone ↦ or_right (is_one_of (removed u more) w) (is_one_of (u ∷ away) w) (or_right (u == w) (is_one_of away w) gone)
        ]

-- a user who is away too, and more, break what is left
pub broken_by : (plans : List (List ℕ)) (away : List ℕ) (k most u : ℕ) → k ≤ u → CanBreak plans (u ∷ away) k most → CanBreak plans away k (most + 1)
broken_by plans away k most u low broken = record {
  more = u ∷ broken.more;
  from_on = λ w one. elim (or_cases (u == w) (is_one_of broken.more w) one) [
    | inl same ↦ let is = eqb-true u w same in omega (arith, is, low)
    | inr later ↦ broken.from_on w later
  ];
  few = let few = broken.few in omega (arith, few);
  breaks = leaves_alike plans ((u ∷ broken.more) ++ away) (broken.more ++ (u ∷ away)) (one_beside u broken.more away) ∙ broken.breaks;
}

pub leaves_append : (plans : List (List ℕ)) (plan a : List ℕ) → leaves_some (plans ++ plan ∷ []) a ≡ (leaves_some plans a || is_whole a plan)
leaves_append [] plan a = or-false (is_whole a plan)
leaves_append (q ∷ plans) plan a = ap (λ b. is_whole a q || b) (leaves_append plans plan a)
    ∙ sym (or_assoc (is_whole a q) (leaves_some plans a) (is_whole a plan))
