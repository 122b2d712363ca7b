-- How many bits of a word are set.
use Rattle.std.proofs.Common.{◌≡◌, ℕ, zero, suc, ◌+◌, ◌*◌, ◌/◌, ◌%◌, ◌^◌, ◌<◌, ◌≤◌, Bool, nat_eq, List, length, take, slice_index}
use Rattle.std.proofs.Common.{slice_index_or, [], ◌∷◌, refl, sym, ap, subst, ◌∙◌, inl, inr, arith, count_ones}
use Rattle.std.specs.Prelude.{if◌then◌else◌}
use Rattle.std.specs.Int.{bit_at, w64}
use mir.Val.{Fits}
use Rattle.std.specs.List.{sum_by}
use Rattle.std.specs.Simd.Lanes.{chunk}
use Rattle.std.proofs.lemmas.List.{take_all}
use Rattle.std.proofs.lemmas.List.Sums.{sum_by_more, sum_by-cons}
use Rattle.std.proofs.lemmas.Nat.{ones-le, ones_cat, pow_pos, shr_split, mul-le}
use Rattle.std.proofs.lemmas.Bool.{cases_lt}
use Rattle.std.proofs.lemmas.Nat.Bits.{bit_at_cat_low}
use Rattle.wf_names.specs.UserSets.{has_bit, has_user, count_below}

pub count_same : (n : ℕ) (f g : ℕ → Bool) → ((i : ℕ) → i < n → f i ≡ g i) → count_below n f ≡ count_below n g
unfolding count_below
count_same zero f g h = refl
count_same (suc n) f g h = grind (arith, (count_same n f g (λ i lt. h i (omega (arith, lt)))))

pub count_within : (n : ℕ) (f : ℕ → Bool) → count_below n f ≤ n
unfolding count_below
count_within zero f = omega arith
count_within (suc n) f = grind (arith, (count_within n f))

digit : (a : ℕ) → a < 2 → count_ones a ≡ (if nat_eq (a % 2) 1 then 1 else 0)
unfolding lib.Count.ones
digit a h = grind arith

-- the set bits of a word are those that pass the test of a bit
pub ones_counted : (n w : ℕ) → w < 2 ^ n → count_ones w ≡ count_below n (has_bit w)
unfolding count_below
ones_counted zero w h =
    let nothing : w ≡ 0 = omega (arith, h) in
    ap count_ones nothing ∙ digit 0 (omega arith)
ones_counted (suc n) w h =
    let high = w / 2 ^ n in
    let low = w % 2 ^ n in
    let split : high * 2 ^ n + low ≡ w = shr_split w n in
    let small : low < 2 ^ n = omega (arith, pow_pos n) in
    let bit : high < 2 = elim (cases_lt high 2) [
      | inl lt ↦ lt
      | inr ge ↦ absurd (omega (arith, h, split, mul-le 2 (2 ^ n) high (2 ^ n) ge (omega arith)))
    ] in
    ap count_ones (sym split) ∙ ones_cat n high low small
    ∙ ap (λ c. c + count_ones low) (digit high bit)
    ∙ ap (λ c. (if has_bit w n then 1 else 0) + c) (ones_counted n low small
    ∙ count_same n (has_bit low) (has_bit w) (λ i lt. ap (λ b. nat_eq b 1) (sym (bit_at_cat_low high n low i lt) ∙ ap (λ x. bit_at x i) split)))
    ∙ (omega arith)

count_add : (m n : ℕ) (f : ℕ → Bool) → count_below (m + n) f ≡ count_below m f + count_below n (λ i. f (m + i))
unfolding count_below
count_add m zero f =
    let none : m + zero ≡ m = omega arith in
    ap (λ k. count_below k f) none ∙ omega arith
count_add m (suc n) f =
    let more : m + suc n ≡ suc (m + n) = omega arith in
    ap (λ k. count_below k f) more ∙ ap (λ c. c + (if f (m + n) then 1 else 0)) (count_add m n f) ∙ omega arith

-- the users of the first words are the set bits of these words
pub users_counted : (words : List ℕ) → ((i : ℕ) → Fits w64 (slice_index_or words i 0)) → (n : ℕ) → n ≤ length words
    → sum_by count_ones (take n words) ≡ count_below (64 * n) (has_user words)
unfolding count_below
users_counted words fits zero within = refl
users_counted words fits (suc n) within =
    let rest : n ≤ length words = omega (arith, within) in
    let lt : n < length words = omega (arith, within) in
    let next : n + 1 ≡ suc n = omega arith in
    let size : 64 * suc n ≡ 64 * n + 64 = omega arith in
    ap (λ k. sum_by count_ones (take k words)) (sym next)
    ∙ sum_by_more count_ones words n 0 lt
    ∙ ap (λ c. c + count_ones (slice_index_or words n 0)) (users_counted words fits n rest)
    ∙ ap (λ c. count_below (64 * n) (has_user words) + c)
    (ones_counted 64 (slice_index_or words n 0) ((fits n).fits)
    ∙ count_same 64 (has_bit (slice_index_or words n 0)) (λ i. has_user words (64 * n + i)) (λ i small.
    let word : (64 * n + i) / 64 ≡ n = omega (arith, small) in
    let place : (64 * n + i) % 64 ≡ i = omega (arith, small) in
    sym (ap (λ j. has_bit (slice_index_or words j 0) ((64 * n + i) % 64)) word ∙ ap (λ k. has_bit (slice_index_or words n 0) k) place)))
    ∙ sym (ap (λ k. count_below k (has_user words)) size ∙ count_add (64 * n) 64 (has_user words))

-- the words of a vector behind those before it
pub ones_on : (at n : ℕ) (words : List ℕ)
    → sum_by count_ones (take (at + n) words) ≡ sum_by count_ones (take at words) + sum_by count_ones (chunk at n words)
ones_on zero n words =
    let same : zero + n ≡ n = omega arith in
    let whole = ap (λ k. sum_by count_ones (take k words)) same in
    omega (arith, whole)
ones_on (suc at) n [] =
    let next : suc at + n ≡ suc (at + n) = omega arith in
    let whole = ap (λ k. sum_by count_ones (take k [])) next in
    let none = ap (sum_by count_ones) (take_all n [] (omega arith)) in
    omega (arith, whole, none)
ones_on (suc at) n (w ∷ words) =
    let next : suc at + n ≡ suc (at + n) = omega arith in
    let rest = ones_on at n words in
    let more = sum_by-cons count_ones w (take (at + n) words) in
    let some = sum_by-cons count_ones w (take at words) in
    ap (λ k. sum_by count_ones (take k (w ∷ words))) next ∙ omega (arith, rest, more, some)

-- no word has more than 64 bits
pub ones_within : (words : List ℕ) → ((i : ℕ) → slice_index words i < 2 ^ 64) → (n : ℕ) → n ≤ length words
    → sum_by count_ones (take n words) ≤ 64 * n
ones_within words fits zero within = omega arith
ones_within words fits (suc n) within =
    let rest = ones_within words fits n (omega (arith, within)) in
    let more = sum_by_more count_ones words n 0 (omega (arith, within)) in
    let word = ones-le 64 (slice_index words n) (fits n) in
    let next : suc n ≡ n + 1 = omega arith in
    subst (λ k. sum_by count_ones (take k words) ≤ 64 * k) (sym next) (omega (arith, rest, more, word))
