-- How far a text is written, and what became of a count of faults.
use Rattle.std.specs.Prelude.{◌≡◌, ℕ, List, ◌++◌, Option, Result, Ok, Err}
use Rattle.wf_outside.specs.Laws.Outside.{with_bytes}
use Rattle.basics.specs.declared.fault.Fault.{Fault}
use Rattle.basics.specs.declared.fault.Fault.TheVariants.{Cause, NoMemory}
use Rattle.wf_outside.specs.declared.source.Failed.{Failed}

-- that the sink failed
abbrev pub not_written : Fault Failed
not_written = Cause record {}

-- the count of faults is as it was, unless the answer is a fault
abbrev pub StaysUnlessUnwritten : {A : Type 0} → Result A (Fault Failed) → ℕ → ℕ → Type 0
StaysUnlessUnwritten (Ok a) before after = after ≡ before
StaysUnlessUnwritten (Err (Cause _)) before after = Unit {0}
StaysUnlessUnwritten (Err NoMemory) before after = after ≡ before

-- inside: all of a text was put but the rest
pub record HasPut (before after : Option (List ℕ)) (text rest : List ℕ) : Type 0 where
  pub front : List ℕ
  pub whole : text ≡ front ++ rest
  pub held : after ≡ with_bytes before front
