-- Whether relations treat two users alike, by rules that read the same and by rows of users.
use Rattle.std.proofs.Common.{◌≡◌, refl, ℕ, ◌<◌, Bool, true, false, ◌&&◌, ◌||◌, ◌==◌, ◌↔◌, nat_lt, List, Option, arith}
use Rattle.std.proofs.lemmas.Bool.{false≢true}
use Rattle.basics.proofs.Booleans.{and_both, and_from, lt_back, lt_yes, not_true, same_by}
use Rattle.wf_names.specs.UserSets.{has_user}
use Rattle.constraint_forms.specs.declared.rule.Rule.{Rule}
use Rattle.constraint_forms.proofs.Reading.{all_as_each, each_read}
use Rattle.policy_book.specs.Laws.Plans.{Problem}
use Rattle.policy_book.specs.Laws.Twins.{agree, all_below, is_alike_to, is_rule_alike}
use Rattle.certificate_check.specs.Alike.{AreSameBut, reads_as}
use Rattle.certificate_check.proofs.Below.{agree_same, all_pass, each_passes, same_agree}

-- a rule treats users alike where another does that reads all that it reads
pub read_alike : (p : Problem) (u v : ℕ) (a b : Option Rule) → reads_as a b ≡ true → is_rule_alike p u v a ≡ true → is_rule_alike p u v b ≡ true
read_alike p u v a b h alike = grind (arith, false≢true, all_as_each, each_read)

-- a set is that of the users below a number who pass
abbrev IsRow : List ℕ → ℕ → (ℕ → Bool) → Type 0
IsRow row n test = (w : ℕ) → has_user row w ≡ (nat_lt w n && test w)

second_holds : (a b : Bool) → (a || b) ≡ true → a ≡ false → b ≡ true
second_holds a b h is = grind (arith, false≢true)

-- rows are the same, u and v aside, where the tests are
rows_same : (n : ℕ) (f g : ℕ → Bool) (u v : ℕ) (a b : List ℕ) → IsRow a n f → IsRow b n g →
    ((w : ℕ) → w < n → (w == u || w == v) ≡ false → f w ≡ g w) → AreSameBut a b u v
rows_same n f g u v a b of_a of_b same = grind (arith, lt_back)

tests_same : (n : ℕ) (f g : ℕ → Bool) (u v : ℕ) (a b : List ℕ) → IsRow a n f → IsRow b n g → AreSameBut a b u v →
    (w : ℕ) → w < n → (w == u || w == v) ≡ false → f w ≡ g w
tests_same n f g u v a b of_a of_b same w below apart = grind (arith, lt_yes)

abbrev alike_test : (ℕ → ℕ → Bool) → ℕ → ℕ → ℕ → Bool
alike_test holds u v w = (w == u || w == v) || is_alike_to holds u v w

both_agree : (n : ℕ) (holds : ℕ → ℕ → Bool) (u v : ℕ) → all_below n (alike_test holds u v) ≡ true →
    (w : ℕ) → w < n → (w == u || w == v) ≡ false → (agree (holds u w) (holds v w) ≡ true) × (agree (holds w u) (holds w v) ≡ true)
both_agree n holds u v all w below apart =
    and_both (agree (holds u w) (holds v w)) (agree (holds w u) (holds w v))
    (second_holds (w == u || w == v) (is_alike_to holds u v w) (each_passes n (alike_test holds u v) all w below) apart)

-- what the first two rows tell where they differ
pub unlike_ahead : (n : ℕ) (holds : ℕ → ℕ → Bool) (u v : ℕ) (a b : List ℕ) → IsRow a n (holds u) → IsRow b n (holds v) →
    (AreSameBut a b u v → ⊥) → all_below n (λ w. (w == u || w == v) || is_alike_to holds u v w) ≡ false
unlike_ahead n holds u v a b of_a of_b unlike =
    not_true (all_below n (alike_test holds u v)) (λ all. unlike
    (rows_same n (holds u) (holds v) u v a b of_a of_b
    (λ w below apart. agree_same (holds u w) (holds v w) (both_agree n holds u v all w below apart).0)))

-- what the other two tell where the first are the same
pub alike_behind : (n : ℕ) (holds : ℕ → ℕ → Bool) (u v : ℕ) (a b c d : List ℕ) (other : Bool) → IsRow a n (holds u) → IsRow b n (holds v) →
    IsRow c n (λ w. holds w u) → IsRow d n (λ w. holds w v) → AreSameBut a b u v → (other ≡ true ↔ AreSameBut c d u v) →
    other ≡ all_below n (λ w. (w == u || w == v) || is_alike_to holds u v w)
alike_behind n holds u v a b c d other of_a of_b of_c of_d ahead told =
    same_by other (all_below n (alike_test holds u v))
    (λ is. all_pass n (alike_test holds u v) (λ w below. each (told.0 is) w below (w == u || w == v) refl))
    (λ all. told.1 (rows_same n (λ w. holds w u) (λ w. holds w v) u v c d of_c of_d
    (λ w below apart. agree_same (holds w u) (holds w v) (both_agree n holds u v all w below apart).1)))
  where
    each : AreSameBut c d u v → (w : ℕ) → w < n → (aside : Bool) → (w == u || w == v) ≡ aside → (aside || is_alike_to holds u v w) ≡ true
    each behind w below true is = refl
    each behind w below false is =
        and_from (agree (holds u w) (holds v w)) (agree (holds w u) (holds w v))
        (same_agree (holds u w) (holds v w) (tests_same n (holds u) (holds v) u v a b of_a of_b ahead w below is))
        (same_agree (holds w u) (holds w v) (tests_same n (λ w. holds w u) (λ w. holds w v) u v c d of_c of_d behind w below is))
