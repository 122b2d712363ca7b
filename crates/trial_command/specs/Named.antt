-- The names in a trial.
use Rattle.std.specs.Prelude.{ℕ, ◌+◌, ◌/◌, ◌%◌, List, [], ◌∷◌, ◌++◌, codes}

-- the digit of a number below 10
abbrev pub digit : ℕ → ℕ
digit n = 48 + n

-- the two digits of a number below 100
abbrev pub two_digits : ℕ → List ℕ
two_digits n = digit (n / 10) ∷ digit (n % 10) ∷ []

-- users are `u00`, `u01` and so on
unfoldable pub user_name : ℕ → List ℕ
user_name u = codes "u" ++ two_digits u

-- steps are `s00`, `s01` and so on
unfoldable pub step_name : ℕ → List ℕ
step_name k = codes "s" ++ two_digits k

-- roles are `r0`, `r1` and so on
unfoldable pub role_name : ℕ → List ℕ
role_name r = codes "r" ++ digit r ∷ []

-- the role of the administrators
abbrev pub admin_name : List ℕ
admin_name = codes "chief"

-- the workflow
abbrev pub flow_name : List ℕ
flow_name = codes "buy"
