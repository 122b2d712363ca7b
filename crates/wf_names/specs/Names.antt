-- The form of a name, and how one is kept.
use Rattle.std.specs.Prelude.{ℕ, Bool, false, ◌&&◌, ◌||◌, ◌==◌, nat_le, List, [], ◌∷◌, length, take}
use Rattle.std.specs.Prelude.{IsTrue}
use Rattle.std.specs.List.{list_all}
use Rattle.wf_names.specs.Padded.{IsPadded}
use Rattle.wf_names.specs.declared.limits.TheConstants.{NAME_LIMIT}

-- a lower-case letter
abbrev pub is_letter : ℕ → Bool
is_letter b = nat_le 97 b && nat_le b 122

-- a lower-case letter, a digit or the underscore
abbrev pub is_name_byte : ℕ → Bool
is_name_byte b = is_letter b || (nat_le 48 b && nat_le b 57) || (b == 95)

-- the first byte is a letter
abbrev pub starts_with_letter : List ℕ → Bool
starts_with_letter [] = false
starts_with_letter (b ∷ bs) = is_letter b

-- 1 to 40 bytes of lower-case letters, digits and underscores, the first of them a letter
unfoldable pub is_name : List ℕ → Bool
is_name bs = starts_with_letter bs && list_all is_name_byte bs && nat_le (length bs) NAME_LIMIT

-- the first len bytes are a name, and the others are zero
pub record IsStoredName (bytes : List ℕ) (len : ℕ) : Type 0 where
  pub cells : IsPadded NAME_LIMIT 0 bytes len
  pub form : IsTrue (is_name (take len bytes))
