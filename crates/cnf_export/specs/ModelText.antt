-- Models as text, as solvers write them.
use Rattle.std.specs.Prelude.{ℕ, ◌+◌, ◌*◌, ◌-◌, ◌≤◌, Bool, true, false, ◌&&◌, ◌||◌, ◌==◌, nat_le}
use Rattle.std.specs.Prelude.{nat_lt, List, [], ◌∷◌, length, drop, replicate, slice_index}
use Rattle.std.specs.Prelude.{slice_index_or, slice_set, Option, None, Some, option_and_then}
use Rattle.std.specs.Prelude.{Result, Ok, Err, if◌then◌else◌}
use Rattle.std.specs.List.{slice_split}
use Rattle.basics.specs.Laws.Reading.{◌>>=◌, each}
use Rattle.cnf_export.specs.declared.model_text.ModelFault.{ModelFault}
use Rattle.cnf_export.specs.declared.model_text.ModelFault.TheVariants.{NoMemory, Word}

-- what ends a line
abbrev pub is_lf : ℕ → Bool
is_lf b = b == 10

-- a blank, a tab or a carriage return
abbrev pub is_blank : ℕ → Bool
is_blank b = (b == 32) || ((b == 9) || (b == 13))

abbrev pub is_digit : ℕ → Bool
is_digit b = nat_le 48 b && nat_le b 57

-- a line that begins with c or s, as comments do and the line that says whether there is a model
abbrev pub is_passed_over : List ℕ → Bool
is_passed_over line = (slice_index line 0 == 99) || (slice_index line 0 == 115)

-- a line without the v that stands alone at its front
abbrev pub without_v : List ℕ → List ℕ
without_v line =
    if (slice_index line 0 == 118) && is_blank (slice_index_or line 1 32) then drop 1 line else line

-- a number with one more digit, where it is then not above a limit
abbrev pub with_digit : ℕ → ℕ → ℕ → Option ℕ
with_digit limit n b =
    if is_digit b && nat_le (10 * n + (b - 48)) limit then Some (10 * n + (b - 48)) else None

-- the number that n is with more digits
abbrev pub number_behind : ℕ → ℕ → List ℕ → Option ℕ
number_behind limit n [] = Some n
number_behind limit n (b ∷ bs) =
    option_and_then (λ m. number_behind limit m bs) (with_digit limit n b)

-- digits of which there is none, or the first of several is 0
abbrev pub is_misspelt : List ℕ → Bool
is_misspelt digits =
    (length digits == 0) || ((slice_index digits 0 == 48) && nat_lt 1 (length digits))

-- the number that digits say, where it is not above a limit
abbrev pub number_said : ℕ → List ℕ → Option ℕ
number_said limit digits = if is_misspelt digits then None else number_behind limit 0 digits

-- how far a model is read: which variables it has, and how many words were read; no number of
-- words where a 0 has ended it
abbrev pub SoFar : Type 0
SoFar = List Bool × Option ℕ

-- word k is a number: 0 ends the model, another one is a variable that is in it
abbrev pub take_yes : ℕ → List Bool → Option ℕ → Result SoFar ℕ
take_yes k flags None = Err k
take_yes k flags (Some n) =
    if n == 0 then Ok (flags, None) else Ok (slice_set flags (n - 1) true, Some (k + 1))

-- word k is a number behind a sign: a variable that is not in the model
abbrev pub take_no : ℕ → List Bool → Option ℕ → Result SoFar ℕ
take_no k flags None = Err k
take_no k flags (Some n) = if n == 0 then Err k else Ok (flags, Some (k + 1))

-- word k, or the fault that it is none
abbrev pub take_word : ℕ → ℕ → List Bool → List ℕ → Result SoFar ℕ
take_word limit k flags word =
    if slice_index word 0 == 45
    then take_no k flags (number_said limit (drop 1 word))
    else take_yes k flags (number_said limit word)

-- what stands between two blanks; nothing is no word, and nothing is read behind the end
abbrev pub next_part : ℕ → SoFar → List ℕ → Result SoFar ℕ
next_part limit (flags, None) part = Ok (flags, None)
next_part limit (flags, Some k) part =
    if length part == 0 then Ok (flags, Some k) else take_word limit k flags part

abbrev pub take_line : ℕ → SoFar → List ℕ → Result SoFar ℕ
take_line limit so_far line =
    if is_passed_over line
    then Ok so_far
    else each (next_part limit) so_far (slice_split is_blank (without_v line))

-- the model that a text says, of `variables` variables, or its first word that is none
abbrev pub model_of_text : ℕ → List ℕ → Result (List Bool) ℕ
model_of_text variables text =
    each (take_line variables) (replicate variables false, Some 0) (slice_split is_lf text)
    >>= (λ so_far. Ok so_far.0)

-- how many words were read, where that is told
abbrev pub words_read : Option ℕ → ℕ
words_read None = 0
words_read (Some k) = k

-- the word that a fault is; want of memory is none
abbrev pub fault_word : ModelFault → Option ℕ
fault_word (Word k) = Some k
fault_word NoMemory = None

-- a text has no more words than bytes
abbrev pub IsWordOf : List ℕ → ModelFault → Type 0
IsWordOf text (Word k) = k ≤ length text
IsWordOf text NoMemory = Unit {0}
