-- Sets of users, kept as words of bits.
use Rattle.std.specs.Prelude.{◌≡◌, ℕ, zero, suc, ◌+◌, ◌/◌, ◌%◌, ◌<◌, ◌≤◌, Bool, true, false, ◌==◌}
use Rattle.std.specs.Prelude.{List, slice_index_or, if◌then◌else◌}
use Rattle.std.specs.Int.{bit_at}

-- a bit of a word is set
abbrev pub has_bit : ℕ → ℕ → Bool
has_bit word k = bit_at word k == 1

-- a user is in a set: the bit u % 64 of the word u / 64 is set
abbrev pub has_user : List ℕ → ℕ → Bool
has_user words u = has_bit (slice_index_or words (u / 64) 0) (u % 64)

-- how many numbers below n pass
unfoldable pub count_below : ℕ → (ℕ → Bool) → ℕ
count_below zero test = 0
count_below (suc n) test = count_below n test + (if test n then 1 else 0)

-- the least user of a set from a number on
pub record IsNextIn (words : List ℕ) (from : ℕ) (u : ℕ) : Type 0 where
  pub from_on : from ≤ u
  pub member : has_user words u ≡ true
  pub least : (v : ℕ) → from ≤ v → v < u → has_user words v ≡ false

-- the least bit of a word from a place on that is set
pub record IsBitFrom (word from k : ℕ) : Type 0 where
  pub within : k < 64
  pub from_on : from ≤ k
  pub set : has_bit word k ≡ true
  pub least : (i : ℕ) → from ≤ i → i < k → has_bit word i ≡ false
