-- How a value is written into a page.
use Rattle.std.specs.Prelude.{◌≡◌, ℕ, ◌==◌, ◌||◌, Bool, false, List, chars, codes, encode_utf8}
use Rattle.std.specs.Prelude.{flat_map, if◌then◌else◌}
use Rattle.std.specs.List.{All}

-- a character as it is written: five of them by their entities
abbrev pub escape : ℕ → List ℕ
escape c =
    if c == 38 then codes "&amp;" else
    if c == 60 then codes "&lt;" else
    if c == 62 then codes "&gt;" else
    if c == 34 then codes "&quot;" else
    if c == 39 then codes "&#39;" else encode_utf8 c

-- a text as it is written
abbrev pub escaped : List ℕ → List ℕ
escaped text = flat_map escape (chars text)

-- a byte that ends a text or an attribute of a page: `<`, `>`, `"` or `'`
abbrev pub is_mark : ℕ → Bool
is_mark b = b == 60 || b == 62 || b == 34 || b == 39

-- no text has such a byte as it is written
abbrev pub ValuesHaveNoMarks : Type 0
ValuesHaveNoMarks = (text : List ℕ) → All (λ b. is_mark b ≡ false) (escaped text)
