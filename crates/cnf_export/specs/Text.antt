-- Clauses as text, as SAT solvers read them.
use Rattle.std.specs.Prelude.{ℕ, ℤ, List, ◌++◌, length, codes, decimal}
use Rattle.std.specs.Fmt.{signed_decimal}
use Rattle.std.specs.List.{flat_map}

-- a literal, and a blank
abbrev pub literal_text : ℤ → List ℕ
literal_text l = signed_decimal l ++ codes " "

-- the line of a clause: its literals, and 0
abbrev pub clause_line : List ℤ → List ℕ
clause_line c = flat_map literal_text c ++ codes "0\n"

-- the first line: how many variables there are, and how many clauses
abbrev pub header_line : ℕ → ℕ → List ℕ
header_line variables clauses =
    codes "p cnf " ++ (decimal variables ++ (codes " " ++ (decimal clauses ++ codes "\n")))

-- the text of clauses over these variables
abbrev pub dimacs_text : ℕ → List (List ℤ) → List ℕ
dimacs_text variables clauses =
    header_line variables (length clauses) ++ flat_map clause_line clauses
