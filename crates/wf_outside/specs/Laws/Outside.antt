-- What sources, sinks and shelves tell of their content, what a call moved, and what became of a
-- count of faults.
use Rattle.std.specs.Prelude.{◌≡◌, ℕ, ◌+◌, ◌^◌, ◌<◌, ◌≤◌, List, [], ◌++◌, length, take, Option}
use Rattle.std.specs.Prelude.{None, Some, IfSome, IsErrOf, Result, Ok, Err}
use Rattle.wf_outside.specs.declared.loaded.LoadFault.{LoadFault}
use Rattle.wf_outside.specs.declared.loaded.LoadFault.TheVariants.{Failed, TooLong, NoMemory}

-- the count of faults rose; one that is at the last value of 64 bits stays there
abbrev pub Rose : ℕ → ℕ → Type 0
Rose before after = after + 1 < 2 ^ 64 → before < after

-- the count of faults is as it was, unless the answer is a fault
abbrev pub StaysUnlessFailed : {A : Type 0} → Result A LoadFault → ℕ → ℕ → Type 0
StaysUnlessFailed (Ok a) before after = after ≡ before
StaysUnlessFailed (Err Failed) before after = Unit {0}
StaysUnlessFailed (Err TooLong) before after = after ≡ before
StaysUnlessFailed (Err NoMemory) before after = after ≡ before

-- the count of faults does not fall; it rises where the answer is a fault, and else stays
pub record CountsFailed {A : Type 0} (result : Result A LoadFault) (before after : ℕ) : Type 0 where
  pub faults : before ≤ after
  pub rose : IsErrOf result Failed → Rose before after
  pub stays : StaysUnlessFailed result before after

-- what a shelf tells of a name: the bytes of the file, that there is no such file, or nothing
pub data Filed : Type 0 where
  told : List ℕ → Filed
  missing : Filed
  untold : Filed

-- what a sink holds once these bytes are put at its end, where it tells
unfoldable pub with_bytes : Option (List ℕ) → List ℕ → Option (List ℕ)
with_bytes None bytes = None
with_bytes (Some held) bytes = Some (held ++ bytes)

-- these bytes in front of what a source has left, where it tells
unfoldable pub bytes_before : List ℕ → Option (List ℕ) → Option (List ℕ)
bytes_before bytes None = None
bytes_before bytes (Some left) = Some (bytes ++ left)

-- a source that had `before` left, and has `after` left, gave these bytes
abbrev pub HasTaken : Option (List ℕ) → Option (List ℕ) → List ℕ → Type 0
HasTaken before after bytes = before ≡ bytes_before bytes after

-- nothing is left, where the source tells
abbrev pub IsAtEnd : Option (List ℕ) → Type 0
IsAtEnd left = IfSome left (λ bytes. bytes ≡ [])

-- the source gave this many bytes
pub record HasTakenCount (before after : Option (List ℕ)) (count : ℕ) : Type 0 where
  pub bytes : List ℕ
  pub taken : HasTaken before after bytes
  pub counted : length bytes ≡ count

-- the source gave at most this many bytes
pub record HasTakenAtMost (before after : Option (List ℕ)) (most : ℕ) : Type 0 where
  pub bytes : List ℕ
  pub taken : HasTaken before after bytes
  pub within : length bytes ≤ most

-- a sink that held `before` holds a prefix of these bytes after it, maybe all of them
pub record HasPart (before after : Option (List ℕ)) (bytes : List ℕ) : Type 0 where
  pub count : ℕ
  pub within : count ≤ length bytes
  pub held : after ≡ with_bytes before (take count bytes)

-- what reading all of this content may answer under a limit: all of it, or that it is longer, or a
-- fault before that
abbrev pub ReadsAll : List ℕ → ℕ → Result (List ℕ) LoadFault → Type 0
ReadsAll content limit (Ok bytes) = (bytes ≡ content) × (length content ≤ limit)
ReadsAll content limit (Err TooLong) = limit < length content
ReadsAll content limit (Err Failed) = Unit {0}
ReadsAll content limit (Err NoMemory) = Unit {0}

-- what loading a file with this content may answer: that it is too long exactly where it is, else
-- all of it or a fault
abbrev pub LoadsFile : List ℕ → ℕ → Result (List ℕ) LoadFault → Type 0
LoadsFile content limit (Ok bytes) = (bytes ≡ content) × (length content ≤ limit)
LoadsFile content limit (Err TooLong) = limit < length content
LoadsFile content limit (Err Failed) = length content ≤ limit
LoadsFile content limit (Err NoMemory) = length content ≤ limit

-- what loading may answer under a limit, by what the shelf tells of the name: a file that is
-- missing is a fault
abbrev pub LoadsAs : Filed → ℕ → Result (List ℕ) LoadFault → Type 0
LoadsAs (told content) limit result = LoadsFile content limit result
LoadsAs missing limit result = result ≡ Err Failed
LoadsAs untold limit result = Unit {0}
