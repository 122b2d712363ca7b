-- How the users of a set change with its words.
use Rattle.std.proofs.Common.{◌≡◌, ℕ, min, max, ◌+◌, ◌*◌, ◌/◌, ◌%◌, ◌^◌, ◌<◌, Bool, true, false, not, ◌&&◌, ◌||◌, nat_eq, List, length}
use Rattle.std.proofs.Common.{slice_index_or, slice_set, cond, refl, ap, ◌∙◌, arith, bit_and, bit_or, get_or-set_same}
use Rattle.std.proofs.Common.{get_or-set_other}
use Rattle.std.specs.Int.{bit_not, w64}
use Rattle.std.proofs.lemmas.Nat.Bits.{bit_at_set_same, bit_at_set_other, bit_at_clear_same, bit_at_clear_other, bit_at_and, bit_at_or, bit_at_xor, bit_at-lt}
use Rattle.std.proofs.lemmas.Nat.Bits.{bit_at-zero}
use Rattle.std.proofs.lemmas.Bool.{cases_eq, cases_lt, eq-eqb, ne_eqb}
use Rattle.std.proofs.lemmas.Bool.Decides.{nat_tests}
use Rattle.std.proofs.lemmas.List.{get_or_past}
use Rattle.std.proofs.lemmas.Simd.{length-zip2, get_or-zip2}
use Rattle.std.specs.Simd.Lanes.{zip2}
use Rattle.wf_names.specs.Words.{minus}
use Rattle.wf_names.specs.UserSets.{has_bit, has_user}
use mir.Val.{bits}

-- a set with another word at the place of a user, which differs in that user alone
word_changed : (words : List ℕ) (u v x : ℕ) (b : Bool) → u / 64 < length words → has_bit x (u % 64) ≡ b
    → ((k : ℕ) → k < 64 → (k ≡ u % 64 → ⊥) → has_bit x k ≡ has_bit (slice_index_or words (u / 64) 0) k)
    → has_user (slice_set words (u / 64) x) v ≡ cond (nat_eq v u) b (has_user words v)
word_changed words u v x b within own others = grind (arith, cases_eq, get_or-set_same, eq-eqb, ne_eqb, get_or-set_other)

cond_or : (t h : Bool) → cond t true h ≡ (t || h)
cond_or t h = grind arith

cond_and : (t h : Bool) → cond t false h ≡ (not t && h)
cond_and t h = grind arith

-- to set the bit of a user puts the user in
pub put_in : (words : List ℕ) (u v : ℕ) → u / 64 < length words
    → has_user (slice_set words (u / 64) (bit_or (slice_index_or words (u / 64) 0) (1 * 2 ^ (u % 64) % 2 ^ bits w64))) v ≡ (nat_eq v u || has_user words v)
put_in words u v within =
    let word = slice_index_or words (u / 64) 0 in
    let small : u % 64 < 64 = omega arith in
    word_changed words u v _ true within
    (ap (λ b. nat_eq b 1) (bit_at_set_same w64 word (u % 64) small))
    (λ k h ne. ap (λ b. nat_eq b 1) (bit_at_set_other w64 word (u % 64) small k ne))
    ∙ cond_or (nat_eq v u) (has_user words v)

-- to clear the bit of a user takes the user out
pub taken_out : (words : List ℕ) (u v : ℕ) → u / 64 < length words
    → has_user (slice_set words (u / 64) (bit_and (slice_index_or words (u / 64) 0) (bit_not w64 (1 * 2 ^ (u % 64) % 2 ^ bits w64))))
    v ≡ (not (nat_eq v u) && has_user words v)
taken_out words u v within =
    let word = slice_index_or words (u / 64) 0 in
    let small : u % 64 < 64 = omega arith in
    word_changed words u v _ false within
    (ap (λ b. nat_eq b 1) (bit_at_clear_same w64 word (u % 64) small))
    (λ k h ne. ap (λ b. nat_eq b 1) (bit_at_clear_other w64 word (u % 64) small k h ne))
    ∙ cond_and (nat_eq v u) (has_user words v)

both_bits : (a b : ℕ) → a < 2 → b < 2 → nat_eq (min a b) 1 ≡ (nat_eq a 1 && nat_eq b 1)
both_bits a b h k = grind (arith, nat_tests)

pub some_bit : (a b : ℕ) → a < 2 → b < 2 → nat_eq (max a b) 1 ≡ (nat_eq a 1 || nat_eq b 1)
some_bit a b h k = grind (arith, nat_tests)

own_bit : (a b : ℕ) → a < 2 → b < 2 → nat_eq ((a + min a b) % 2) 1 ≡ (nat_eq a 1 && not (nat_eq b 1))
own_bit a b h k = grind (arith, nat_tests)

bit_of_both : (a b k : ℕ) → has_bit (bit_and a b) k ≡ (has_bit a k && has_bit b k)
bit_of_both a b k = ap (λ x. nat_eq x 1) (bit_at_and a b k) ∙ both_bits _ _ (bit_at-lt a k) (bit_at-lt b k)

bit_of_either : (a b k : ℕ) → has_bit (bit_or a b) k ≡ (has_bit a k || has_bit b k)
bit_of_either a b k = ap (λ x. nat_eq x 1) (bit_at_or a b k) ∙ some_bit _ _ (bit_at-lt a k) (bit_at-lt b k)

bit_of_minus : (a b k : ℕ) → has_bit (minus a b) k ≡ (has_bit a k && not (has_bit b k))
bit_of_minus a b k = grind (arith, bit_at_xor, bit_at_and, own_bit, bit_at-lt)

-- a set whose words are mixed with those of another one, bit by bit
mixed_users : (f : ℕ → ℕ → ℕ) (g : Bool → Bool → Bool) (xs ys : List ℕ) (v : ℕ) → length xs ≡ length ys
    → g false false ≡ false
    → ((i : ℕ) → has_bit (f (slice_index_or xs i 0) (slice_index_or ys i 0)) (v % 64) ≡ g (has_bit (slice_index_or xs i 0) (v % 64))
    (has_bit (slice_index_or ys i 0) (v % 64)))
    → has_user (zip2 f xs ys) v ≡ g (has_user xs v) (has_user ys v)
mixed_users f g xs ys v same none bits = grind (arith, cases_lt, get_or-zip2, bit_at-zero, length-zip2, get_or_past)

pub met_users : (xs ys : List ℕ) (v : ℕ) → length xs ≡ length ys → has_user (zip2 bit_and xs ys) v ≡ (has_user xs v && has_user ys v)
met_users xs ys v same = mixed_users bit_and (λ a b. a && b) xs ys v same refl (λ i. bit_of_both _ _ (v % 64))

pub joined_users : (xs ys : List ℕ) (v : ℕ) → length xs ≡ length ys → has_user (zip2 bit_or xs ys) v ≡ (has_user xs v || has_user ys v)
joined_users xs ys v same = mixed_users bit_or (λ a b. a || b) xs ys v same refl (λ i. bit_of_either _ _ (v % 64))

pub struck_users : (xs ys : List ℕ) (v : ℕ) → length xs ≡ length ys → has_user (zip2 minus xs ys) v ≡ (has_user xs v && not (has_user ys v))
struck_users xs ys v same = mixed_users minus (λ a b. a && not b) xs ys v same refl (λ i. bit_of_minus _ _ (v % 64))
