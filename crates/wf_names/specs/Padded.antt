-- Inside: lists up to a limit, kept in a row of cells whose length is the limit.
use Rattle.std.specs.Prelude.{◌≡◌, ℕ, ◌-◌, ◌≤◌, List, ◌++◌, length, take, drop, replicate}
use Rattle.std.proofs.Common.{sym, subst}
use Rattle.std.proofs.lemmas.List.{take-append-drop, length-take-le}

-- a list, filled up to the limit with a blank
unfoldable pub padded : {X : Type 0} → ℕ → X → List X → List X
padded limit blank xs = xs ++ replicate (limit - length xs) blank

-- the first len cells are a list, and the others are blank
pub record IsPadded {X : Type 0} (limit : ℕ) (blank : X) (cells : List X) (len : ℕ) : Type 0 where
  pub fits : len ≤ limit
  pub whole : length cells ≡ limit
  pub rest : drop len cells ≡ replicate (limit - len) blank

pub length-taken : {X : Type 0} (limit : ℕ) (blank : X) (cells : List X) (len : ℕ) →
    IsPadded limit blank cells len → length (take len cells) ≡ len
length-taken limit blank cells len h =
    length-take-le len cells (subst (λ n. len ≤ n) (sym h.whole) h.fits)

pub padded-take : {X : Type 0} (limit : ℕ) (blank : X) (cells : List X) (len : ℕ) →
    IsPadded limit blank cells len → padded limit blank (take len cells) ≡ cells
unfolding padded
padded-take limit blank cells len h =
    rw (length-taken limit blank cells len h, ← h.rest) (take-append-drop len cells)
