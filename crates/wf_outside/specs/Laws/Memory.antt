-- The source, the sink and the shelf in memory: what they hold, and what each call does.
use Rattle.std.specs.Prelude.{◌≡◌, ℕ, ◌+◌, ◌-◌, ◌^◌, min, Bool, ◌&&◌, ◌||◌, ◌==◌, nat_eq, nat_lt}
use Rattle.std.specs.Prelude.{if◌then◌else◌, List, [], ◌∷◌, ◌++◌, length, take, drop, MatchBool}
use Rattle.std.specs.Prelude.{Result, Ok, Err}
use Rattle.std.specs.Prelude.{true, false}
use Rattle.wf_outside.specs.declared.loaded.LoadFault.{LoadFault}
use Rattle.wf_outside.specs.declared.loaded.LoadFault.TheVariants.{Failed, TooLong, NoMemory}
use Rattle.wf_outside.specs.Laws.Outside.{Filed, told, missing, untold}
use Rattle.std.specs.List.{list_any}
use Rattle.std.specs.Cmp.Lexicographic.{pointwise}

-- which calls are to fail, by number from 0, how many were made, and how many failed
pub record CountsShape : Type 0 where
  pub failing : List ℕ
  pub calls : ℕ
  pub faults : ℕ

-- one more, or the same at the last value of 64 bits
abbrev pub next_count : ℕ → ℕ
next_count n = if nat_lt (n + 1) (2 ^ 64) then n + 1 else n

-- the next call is one of those that are to fail
abbrev pub is_failing : CountsShape → Bool
is_failing c = list_any (λ n. n == c.calls) c.failing

-- the counts after a call that did not fail
abbrev pub after_call : CountsShape → CountsShape
after_call c = record c { calls = next_count c.calls }

-- the counts after a call that failed
abbrev pub after_fault : CountsShape → CountsShape
after_fault c = record c { calls = next_count c.calls; faults = next_count c.faults }

-- a source in memory: the bytes that are left, and how many one call gives at most
pub record MemSourceShape : Type 0 where
  pub left : List ℕ
  pub most : ℕ
  pub counts : CountsShape

-- as many bytes as one call may give went from the front of what is left to that of a buffer
pub record GivesFront (old new : MemSourceShape) (buf filled : List ℕ) (n : ℕ) : Type 0 where
  pub count : n ≡ min old.most (min (length buf) (length old.left))
  pub front : filled ≡ take n old.left ++ drop n buf
  pub after : new ≡ record old { left = drop n old.left; counts = after_call old.counts }

-- a sink in memory: the bytes that it holds, how many it has room for, and how many one call takes
-- at most
pub record MemSinkShape : Type 0 where
  pub bytes : List ℕ
  pub room : ℕ
  pub most : ℕ
  pub counts : CountsShape

-- how many of `count` bytes the sink takes at once
abbrev pub piece_len : MemSinkShape → ℕ → ℕ
piece_len s count = min s.most (min count (s.room - length s.bytes))

-- the sink fails: the call is to fail, or there are bytes and it can take none
abbrev pub is_refusing : MemSinkShape → ℕ → Bool
is_refusing s count = is_failing s.counts || (nat_lt 0 count && piece_len s count == 0)

-- a file by its name and its bytes
pub record FileShape : Type 0 where
  pub name : List ℕ
  pub bytes : List ℕ

-- a shelf in memory
pub record MemShelfShape : Type 0 where
  pub files : List FileShape
  pub counts : CountsShape

-- the bytes of the first file of that name, if there is one
abbrev pub file_of : List FileShape → List ℕ → Filed
file_of [] name = missing
file_of (f ∷ files) name = if pointwise nat_eq f.name name then told f.bytes else file_of files name

-- the counts after a load: a fault is counted exactly where the answer is one
abbrev pub counts_after : CountsShape → Result (List ℕ) LoadFault → CountsShape
counts_after c (Ok bytes) = after_call c
counts_after c (Err Failed) = after_fault c
counts_after c (Err TooLong) = after_call c
counts_after c (Err NoMemory) = after_call c

-- what a call that is or is not to fail may answer for a file of at most the limit
abbrev pub AnswersWith : Bool → List ℕ → Result (List ℕ) LoadFault → Type 0
AnswersWith failing content (Ok bytes) = (bytes ≡ content) × (failing ≡ false)
AnswersWith failing content (Err Failed) = failing ≡ true
AnswersWith failing content (Err TooLong) = ⊥
AnswersWith failing content (Err NoMemory) = failing ≡ false

-- what a shelf with these counts may answer: a fault for a name that it lacks, else that the file
-- is too long, else by the list of failing calls
abbrev pub LoadsFrom : CountsShape → Filed → ℕ → Result (List ℕ) LoadFault → Type 0
LoadsFrom c missing limit result = result ≡ Err Failed
LoadsFrom c (told content) limit result =
    MatchBool (nat_lt limit (length content)) (result ≡ Err TooLong)
    (AnswersWith (is_failing c) content result)
LoadsFrom c untold limit result = ⊥
