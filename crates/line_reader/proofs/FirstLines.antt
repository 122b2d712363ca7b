-- Laws of first lines.
use Rattle.std.proofs.Common.{refl, arith}
use Rattle.std.specs.Prelude.{◌≡◌, ℕ, suc, zero, ◌+◌, ◌<◌, ◌≤◌, true, false, List, [], ◌∷◌, ◌++◌, length, Option}
use Rattle.std.proofs.lemmas.Grind.{common_steps}
use Rattle.std.proofs.lemmas.List.{length-append}
use Rattle.memchr.specs.Find.{IsFirstByte, Passes, is_byte}
use Rattle.line_reader.specs.Reader.{first_line, behind_line, has_end, line_length, lines_of}
use Rattle.line_reader.specs.Steps.{HasEndAt, FindsEnd}

-- the first LF stands where no LF stands before it
pub end_at : (bytes : List ℕ) (n : ℕ) → n < length bytes → ((k : ℕ) → k < n → ¬ Passes (is_byte 10) bytes k) → Passes (is_byte 10) bytes n → HasEndAt bytes n
end_at [] n within before here = absurd (omega arith)
end_at (b ∷ bs) zero within before here = grind (arith, common_steps, here)
end_at (b ∷ bs) (suc n) within before here =
    let first = before 0 (omega arith) in
    let rest : HasEndAt bs n = end_at bs n (omega arith) (λ k h. before (suc k) (omega arith)) here in
    grind (arith, common_steps, first, rest)

pub no_end : (bytes : List ℕ) → ((k : ℕ) → k < length bytes → ¬ Passes (is_byte 10) bytes k) → has_end bytes ≡ false
no_end [] none = refl
no_end (b ∷ bs) none =
    let first = none 0 (omega arith) in
    let rest : has_end bs ≡ false = no_end bs (λ k h. none (suc k) (omega arith)) in
    grind (arith, common_steps, first, rest)

pub finds_end : (bytes : List ℕ) (result : Option ℕ) → IsFirstByte (is_byte 10) bytes result → FindsEnd bytes result
finds_end bytes result h = grind (arith, no_end, end_at)

-- a line that has not ended
pub record IsOpen (bytes : List ℕ) : Type 0 where
  pub line : first_line bytes ≡ bytes
  pub behind : behind_line bytes ≡ []
  pub counted : line_length bytes ≡ length bytes

pub open_line : (bytes : List ℕ) → has_end bytes ≡ false → IsOpen bytes
open_line [] none = record { line = refl; behind = refl; counted = refl }
open_line (b ∷ bs) none = grind (arith, common_steps, open_line bs)

-- bytes behind a line that has not ended
pub record GoesOn (front bytes : List ℕ) : Type 0 where
  pub line : first_line (front ++ bytes) ≡ front ++ first_line bytes
  pub behind : behind_line (front ++ bytes) ≡ behind_line bytes
  pub ended : has_end (front ++ bytes) ≡ has_end bytes
  pub counted : line_length (front ++ bytes) ≡ length front + line_length bytes

pub goes_on : (front bytes : List ℕ) → has_end front ≡ false → GoesOn front bytes
goes_on [] bytes none = record { line = refl; behind = refl; ended = refl; counted = omega arith }
goes_on (b ∷ front) bytes none = grind (arith, common_steps, goes_on front bytes)

-- ---- the lines of a text

-- the first line, and the lines behind it
pub lines_first : (bytes : List ℕ) → 0 < length bytes → lines_of bytes ≡ first_line bytes ∷ lines_of (behind_line bytes)
lines_first [] some = absurd (omega arith)
lines_first (b ∷ []) some = grind (arith, common_steps)
lines_first (b ∷ d ∷ bs) some = grind (arith, common_steps, lines_first (d ∷ bs))

-- the first line and what stands behind it are the text
pub split_line : (bytes : List ℕ) → first_line bytes ++ behind_line bytes ≡ bytes
split_line [] = refl
split_line (b ∷ bs) = grind (arith, common_steps, split_line bs)

-- where a line has ended, more bytes stand behind it
pub record HasBehind (bytes more : List ℕ) : Type 0 where
  pub line : first_line (bytes ++ more) ≡ first_line bytes
  pub behind : behind_line (bytes ++ more) ≡ behind_line bytes ++ more

pub more_behind : (bytes more : List ℕ) → has_end bytes ≡ true → HasBehind bytes more
more_behind [] more ended = cc
more_behind (b ∷ bs) more ended = grind (arith, common_steps, more_behind bs more)

-- a line by itself
pub record IsAlone (bytes : List ℕ) : Type 0 where
  pub line : first_line (first_line bytes) ≡ first_line bytes
  pub behind : behind_line (first_line bytes) ≡ []
  pub ended : has_end (first_line bytes) ≡ has_end bytes
  pub counted : line_length (first_line bytes) ≡ line_length bytes
  pub within : line_length bytes ≤ length (first_line bytes)

pub line_alone : (bytes : List ℕ) → IsAlone bytes
line_alone [] = record { line = refl; behind = refl; ended = refl; counted = refl; within = omega arith }
line_alone (b ∷ bs) = grind (arith, common_steps, line_alone bs)

-- more bytes make the first line no shorter
pub line_longer : (bytes more : List ℕ) → line_length bytes ≤ line_length (bytes ++ more)
line_longer [] more = omega arith
line_longer (b ∷ bs) more = grind (arith, common_steps, line_longer bs more)

-- bytes with an LF at their end have one
pub ends_with_lf : (bytes : List ℕ) → has_end (bytes ++ 10 ∷ []) ≡ true
ends_with_lf [] = refl
ends_with_lf (b ∷ bs) = grind (arith, common_steps, ends_with_lf bs)

pub first_some : (bytes : List ℕ) → 0 < length bytes → 0 < length (first_line bytes)
first_some [] some = some
first_some (b ∷ bs) some = grind (arith, common_steps)

ended_some : (bytes : List ℕ) → has_end bytes ≡ true → 0 < length bytes
ended_some [] ended = cc
ended_some (b ∷ bs) ended = omega arith

line_some : (bytes more : List ℕ) → has_end bytes ≡ true → 0 < length (first_line bytes ++ more)
line_some bytes more ended = grind (arith, first_some, ended_some, length-append)

-- a line in front of more
pub line_before : (bytes more : List ℕ) → has_end bytes ≡ true → lines_of (first_line bytes ++ more) ≡ first_line bytes ∷ lines_of more
line_before bytes more ended = grind (arith, line_alone, more_behind, line_some, lines_first)

-- a line by itself is one
pub line_one : (bytes : List ℕ) → 0 < length bytes → lines_of (first_line bytes) ≡ first_line bytes ∷ []
line_one bytes some = grind (arith, line_alone, lines_first, first_some)
