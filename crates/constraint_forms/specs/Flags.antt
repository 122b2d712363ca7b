-- Inside: a word of bits as a list of flags, the flag of bit 0 first.
use Rattle.std.specs.Prelude.{◌≡◌, ℕ, ◌+◌, ◌*◌, ◌/◌, ◌%◌, ◌^◌, ◌<◌, Bool, cond, ◌==◌, List, [], ◌∷◌}
use Rattle.std.proofs.Common.{zero, suc, refl, arith}

-- the lowest n bits of a word
unfoldable pub flags_of : ℕ → ℕ → List Bool
flags_of zero w = []
flags_of (suc n) w = (w % 2 == 1) ∷ flags_of n (w / 2)

-- the word with these lowest bits and no other
unfoldable pub word_of : List Bool → ℕ
word_of [] = 0
word_of (b ∷ bs) = cond b 1 0 + 2 * word_of bs

bit_number : (b : ℕ) → b < 2 → cond (b == 1) 1 0 ≡ b
bit_number zero h = refl
bit_number (suc zero) h = refl
bit_number (suc (suc b)) h = absurd (omega arith)

pub word_of-flags_of : (n w : ℕ) → w < 2 ^ n → word_of (flags_of n w) ≡ w
unfolding flags_of word_of
word_of-flags_of zero w h = omega arith
word_of-flags_of (suc n) w h =
    let half : w / 2 < 2 ^ n = omega arith in
    omega (arith, bit_number (w % 2) (omega arith), word_of-flags_of n (w / 2) half)
