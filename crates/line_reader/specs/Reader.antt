-- Reading an input line by line: the lines of a text, what was taken of the input, and what is
-- handed over.
use Rattle.std.specs.Prelude.{◌≡◌, ℕ, suc, ◌+◌, ◌==◌, ◌<◌, ◌≤◌, Bool, true, false, List, [], ◌∷◌}
use Rattle.std.specs.Prelude.{◌++◌, length, Option, if◌then◌else◌}
use Rattle.wf_names.specs.declared.limits.TheConstants.{TRANSCRIPT_LINE_LIMIT}
use Rattle.wf_outside.specs.Laws.Outside.{Rose, HasTaken, IsAtEnd}
use Rattle.line_reader.specs.declared.read.Read.{Read}
use Rattle.line_reader.specs.declared.read.Read.TheVariants.{Line, End, Failed, TooLong, NoMemory}

-- the first line, with its LF; all of the text where it has none
abbrev pub first_line : List ℕ → List ℕ
first_line [] = []
first_line (b ∷ bs) = if b == 10 then b ∷ [] else b ∷ first_line bs

-- what stands behind the first line
abbrev pub behind_line : List ℕ → List ℕ
behind_line [] = []
behind_line (b ∷ bs) = if b == 10 then bs else behind_line bs

-- the first line has ended: there is an LF
abbrev pub has_end : List ℕ → Bool
has_end [] = false
has_end (b ∷ bs) = if b == 10 then true else has_end bs

-- how many bytes the first line has, without its LF
abbrev pub line_length : List ℕ → ℕ
line_length [] = 0
line_length (b ∷ bs) = if b == 10 then 0 else suc (line_length bs)

-- a byte in front of lines is of the first one
abbrev pub before_lines : ℕ → List (List ℕ) → List (List ℕ)
before_lines b [] = (b ∷ []) ∷ []
before_lines b (line ∷ lines) = (b ∷ line) ∷ lines

-- the lines of a text, each with its LF; what stands behind the last LF is a line too, unless it is
-- empty
abbrev pub lines_of : List ℕ → List (List ℕ)
lines_of [] = []
lines_of (b ∷ bs) = if b == 10 then (b ∷ []) ∷ lines_of bs else before_lines b (lines_of bs)

-- no line is longer than one of a transcript may be
abbrev pub AreShort : List (List ℕ) → Type 0
AreShort [] = Unit {0}
AreShort (line ∷ lines) = (line_length line ≤ TRANSCRIPT_LINE_LIMIT) × AreShort lines

-- a reader: the last line that it read, or the front of the next one where it has not been handed
-- over; the bytes that were taken behind it; how many bytes a line may have without its LF, and how
-- many are taken at once at most
pub record ReaderShape : Type 0 where
  pub line : List ℕ
  pub handed : Bool
  pub ahead : List ℕ
  pub limit : ℕ
  pub room : ℕ

-- what was taken and is not handed over
abbrev pub pending : ReaderShape → List ℕ
pending r = if r.handed then r.ahead else r.line ++ r.ahead

-- these bytes are all that was pending, and what the source gave behind it, which had `before` left
-- and has `after` left
pub record HasSeen (before after : Option (List ℕ)) (r : ReaderShape) (bytes : List ℕ) : Type
    0 where
  pub more : List ℕ
  pub taken : HasTaken before after more
  pub whole : bytes ≡ pending r ++ more

-- the first line of what was seen is handed over, and is not too long; where it has no LF the input
-- has ended; less than one piece is taken behind it
pub record HasReadLine (before after : Option (List ℕ)) (r s : ReaderShape) : Type 0 where
  pub bytes : List ℕ
  pub seen : HasSeen before after r bytes
  pub some : 0 < length bytes
  pub handed : s.handed ≡ true
  pub line : s.line ≡ first_line bytes
  pub behind : s.ahead ≡ behind_line bytes
  pub fits : line_length bytes ≤ r.limit
  pub ended : has_end bytes ≡ false → IsAtEnd after
  pub less : length s.ahead < r.room

-- nothing was left, and the input has ended
pub record HasReadToEnd (before after : Option (List ℕ)) (r s : ReaderShape) : Type 0 where
  pub seen : HasSeen before after r []
  pub none : pending s ≡ []
  pub ended : IsAtEnd after

-- all that was seen is pending: a line that has not ended
pub record HasStopped (before after : Option (List ℕ)) (r s : ReaderShape) : Type 0 where
  pub seen : HasSeen before after r (pending s)
  pub going : has_end (pending s) ≡ false
  pub fits : length (pending s) ≤ r.limit

-- all that was seen is pending: a line that is too long, of which at most one piece was taken
-- behind the limit
pub record HasPassed (before after : Option (List ℕ)) (r s : ReaderShape) : Type 0 where
  pub seen : HasSeen before after r (pending s)
  pub long : r.limit < line_length (pending s)
  pub less : length (pending s) ≤ r.limit + r.room

-- what was read, by the answer
abbrev pub ReadsTo : Option (List ℕ) → Option (List ℕ) → ReaderShape → ReaderShape → Read → Type 0
ReadsTo before after r s Line = HasReadLine before after r s
ReadsTo before after r s End = HasReadToEnd before after r s
ReadsTo before after r s Failed = HasStopped before after r s
ReadsTo before after r s TooLong = HasPassed before after r s
ReadsTo before after r s NoMemory = HasSeen before after r (pending s)

-- the count of faults of the source rose where reading failed, and is as it was else
abbrev pub CountsAs : Read → ℕ → ℕ → Type 0
CountsAs Line before after = after ≡ before
CountsAs End before after = after ≡ before
CountsAs Failed before after = (before ≤ after) × Rose before after
CountsAs TooLong before after = after ≡ before
CountsAs NoMemory before after = after ≡ before
