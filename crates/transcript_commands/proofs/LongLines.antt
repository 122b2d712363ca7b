-- The first line that is too long.
use Rattle.transcript_commands.proofs.Common.{◌≡◌, ℕ, ◌+◌, ◌-◌, ◌==◌, ◌<◌, ◌≤◌, nat_lt, Bool, true, false, List, [], ◌∷◌, length, take, Option, None, Some}
use Rattle.transcript_commands.proofs.Common.{refl, sym, subst, arith, length-drop, TRANSCRIPT_LINE_LIMIT, IsFirstByte, is_byte, behind_line, first_line}
use Rattle.transcript_commands.proofs.Common.{has_end, line_length, lines_of, FindsEnd, finds_end, lines_first, open_line, first_long, whole_lines}
use Rattle.std.proofs.Common.{drop}
use Rattle.std.proofs.lemmas.List.{drop-drop}
use Rattle.transcript_commands.proofs.LinesTaken.{left_at}

-- ---- lengths

whole_step : (b : ℕ) (bs : List ℕ) (x : Bool) → has_end (b ∷ bs) ≡ x → length (whole_lines bs) ≤ length bs → length (whole_lines (b ∷ bs)) ≤ length (b ∷ bs)
whole_step b bs x is h = grind arith

pub whole_short : (bytes : List ℕ) → length (whole_lines bytes) ≤ length bytes
whole_short [] = omega arith
whole_short (b ∷ bs) = whole_step b bs (has_end (b ∷ bs)) refl (whole_short bs)

pub length_found : (bytes : List ℕ) (found : Option ℕ) (n : ℕ) → IsFirstByte (is_byte 10) bytes found → found ≡ Some n → n ≡ line_length bytes
length_found bytes found n is some = let at : FindsEnd bytes (Some n) = subst (FindsEnd bytes) some (finds_end bytes found is) in sym at.counted

pub length_open : (bytes : List ℕ) (found : Option ℕ) → IsFirstByte (is_byte 10) bytes found → found ≡ None → length bytes ≡ line_length bytes
length_open bytes found is none = sym (open_line bytes (subst (FindsEnd bytes) none (finds_end bytes found is))).counted

alone_step : (b : ℕ) (bs : List ℕ) (x : Bool) → (b == 10) ≡ x → line_length (first_line bs) ≡ line_length bs →
    line_length (first_line (b ∷ bs)) ≡ line_length (b ∷ bs)
alone_step b bs x is h = grind arith

-- the first line alone is as long
alone : (bytes : List ℕ) → line_length (first_line bytes) ≡ line_length bytes
alone [] = refl
alone (b ∷ bs) = alone_step b bs (b == 10) refl (alone bs)

-- ---- the first that is too long

-- it is the first line, or one behind it
pub long_here : (n : ℕ) (bytes : List ℕ) → 0 < length bytes → nat_lt TRANSCRIPT_LINE_LIMIT (line_length bytes) ≡ true →
    first_long n (lines_of bytes) ≡ Some n
long_here n bytes some long = grind (arith, alone, lines_first)

pub long_behind : (n : ℕ) (bytes : List ℕ) → 0 < length bytes → nat_lt TRANSCRIPT_LINE_LIMIT (line_length bytes) ≡ false →
    first_long n (lines_of bytes) ≡ first_long (n + 1) (lines_of (behind_line bytes))
long_behind n bytes some short = grind (arith, alone, lines_first)

-- the same of what is left of a text behind a place, as a slice
pub long_at : (n at : ℕ) (text : List ℕ) (found : Option ℕ) → at < length text →
    nat_lt TRANSCRIPT_LINE_LIMIT (line_length (take (length text - at) (drop at text))) ≡ true → first_long n (lines_of (drop at text)) ≡ found → Some n ≡ found
long_at n at text found within long goes = grind (arith, long_here, length-drop, left_at)

pub long_on : (n at count : ℕ) (text : List ℕ) → at < length text →
    nat_lt TRANSCRIPT_LINE_LIMIT (line_length (take (length text - at) (drop at text))) ≡ false
    → drop count (take (length text - at) (drop at text)) ≡ behind_line (take (length text - at) (drop at text))
    → first_long (n + 1) (lines_of (drop (at + count) text)) ≡ first_long n (lines_of (drop at text))
long_on n at count text within short behind = grind (arith, drop-drop, left_at, long_behind, length-drop)
