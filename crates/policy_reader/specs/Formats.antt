-- The formats of a policy file, with their numbers and their keys.
use Rattle.std.specs.Prelude.{codes, ℕ, ℤ, pos, negsuc, ◌==◌, List, [], ◌∷◌, Option, None, Some}
use Rattle.std.specs.Prelude.{if◌then◌else◌}
use Rattle.policy_reader.specs.declared.format.Format.{Format}
use Rattle.policy_reader.specs.declared.format.Format.TheVariants.{First, Second}

-- the number of a format
abbrev pub format_number : Format → ℕ
format_number First = 1
format_number Second = 2

-- the format with a number
abbrev pub format_with : ℤ → Option Format
format_with (pos n) = if n == format_number First then Some First else if n == format_number
    Second then Some Second else None
format_with (negsuc n) = None

-- the keys of the file
abbrev pub file_keys : Format → List (List ℕ)
file_keys First = codes "admin" ∷ codes "flows" ∷ codes "format" ∷ codes "relations" ∷ codes
    "roles" ∷ codes "users" ∷ []
file_keys Second = codes "admin" ∷ codes "flows" ∷ codes "format" ∷ codes "relations" ∷ codes
    "roles" ∷ codes "users" ∷ []
