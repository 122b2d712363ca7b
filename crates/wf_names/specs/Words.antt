-- Words of bits, changed place by place.
use Rattle.std.specs.Prelude.{◌≡◌, ℕ, ◌+◌, ◌<◌, ◌≤◌, List, length, slice_index, bit_and, bit_xor}

-- the bits of a word but those that another one has too
abbrev pub minus : ℕ → ℕ → ℕ
minus a b = bit_xor a (bit_and a b)

-- the eight words from a place on are mixed with those of another list, and the others are as they
-- were
pub record IsMixedFrom (f : ℕ → ℕ → ℕ) (at : ℕ) (old by new : List ℕ) : Type 0 where
  pub below : (i : ℕ) → i < at → slice_index new i ≡ slice_index old i
  pub mixed : (i : ℕ) → i < 8 →
      slice_index new (at + i) ≡ f (slice_index old (at + i)) (slice_index by (at + i))
  pub above : (i : ℕ) → at + 8 ≤ i → slice_index new i ≡ slice_index old i

-- the words below a place are mixed with those of another list, and the others are as they were
pub record IsMixedUpTo (f : ℕ → ℕ → ℕ) (n : ℕ) (old by new : List ℕ) : Type 0 where
  pub whole : length new ≡ length old
  pub below : (i : ℕ) → i < n → slice_index new i ≡ f (slice_index old i) (slice_index by i)
  pub above : (i : ℕ) → n ≤ i → slice_index new i ≡ slice_index old i
