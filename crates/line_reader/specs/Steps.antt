-- Inside: how reading a line goes on, step by step.
use Rattle.std.specs.Prelude.{◌≡◌, ℕ, suc, ◌-◌, ◌<◌, ◌≤◌, true, false, List, length}
use Rattle.std.specs.Prelude.{take, drop, Option, None, Some}
use Rattle.line_reader.specs.declared.read.Read.{Read}
use Rattle.line_reader.specs.Reader.{ReaderShape, HasSeen, pending, first_line, behind_line}
use Rattle.line_reader.specs.Reader.{has_end, line_length, ReadsTo, CountsAs}
use Rattle.line_reader.specs.Pieces.{steps_left}

-- the line that is read is not handed over, has not ended, and is not too long
pub record IsReadingLine (r : ReaderShape) : Type 0 where
  pub kept : r.handed ≡ false
  pub going : has_end r.line ≡ false
  pub short : length r.line ≤ r.limit
  pub room : 0 < r.room

-- the line has not ended yet, and some of it is read
pub record HasReadMore (before after : Option (List ℕ)) (r s : ReaderShape) : Type 0 where
  pub seen : HasSeen before after r (pending s)
  pub begun : IsReadingLine s
  pub limit : s.limit ≡ r.limit
  pub room : s.room ≡ r.room

-- how much is left to do at most: the line grows up to its limit, piece by piece
abbrev pub line_steps : ReaderShape → ℕ
line_steps r = steps_left (r.limit - length r.line) r.ahead

-- one step goes on, or ends reading
abbrev pub StepsTo : Option (List ℕ) → Option (List ℕ) → ReaderShape → ReaderShape →
    Option Read → Type 0
StepsTo before after r s None = HasReadMore before after r s × (line_steps s < line_steps r)
StepsTo before after r s (Some read) = ReadsTo before after r s read

-- the count of faults of the source over one step
abbrev pub CountsStep : Option Read → ℕ → ℕ → Type 0
CountsStep None before after = after ≡ before
CountsStep (Some read) before after = CountsAs read before after

-- the first LF among bytes stands at the place n
pub record HasEndAt (bytes : List ℕ) (n : ℕ) : Type 0 where
  pub within : n < length bytes
  pub line : first_line bytes ≡ take (suc n) bytes
  pub behind : behind_line bytes ≡ drop (suc n) bytes
  pub ended : has_end bytes ≡ true
  pub counted : line_length bytes ≡ n

-- the place of the first LF, if there is one
abbrev pub FindsEnd : List ℕ → Option ℕ → Type 0
FindsEnd bytes None = has_end bytes ≡ false
FindsEnd bytes (Some n) = HasEndAt bytes n
