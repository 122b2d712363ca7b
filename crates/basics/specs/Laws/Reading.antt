-- Readings that end at their first fault, and code that gives what they read.
use Rattle.std.specs.Prelude.{◌≡◌, Bool, true, false, List, [], ◌∷◌, Option, None, Some, Result, Ok}
use Rattle.std.specs.Prelude.{Err}
use Rattle.basics.specs.declared.fault.Fault.{Fault}
use Rattle.basics.specs.declared.fault.Fault.TheVariants.{Cause, NoMemory}

infixl 10 ◌>>=◌
-- reads on from what was read; the first fault ends the reading
abbrev pub ◌>>=◌ : {A B F : Type 0} → Result A F → (A → Result B F) → Result B F
(Ok x) >>= next = next x
(Err fault) >>= next = Err fault

-- what is there, or the fault
abbrev pub or_fault : {A F : Type 0} → Option A → F → Result A F
or_fault (Some x) fault = Ok x
or_fault None fault = Err fault

-- the fault where the test fails
abbrev pub check : {F : Type 0} → Bool → F → Result (Unit {0}) F
check true fault = Ok tt
check false fault = Err fault

-- reads items from the first to the last, each from what was read so far
abbrev pub each : {S D F : Type 0} → (S → D → Result S F) → S → List D → Result S F
each read so_far [] = Ok so_far
each read so_far (d ∷ ds) = read so_far d >>= (λ next. each read next ds)

-- what a reading gives where code ended with an error: its fault, or anything where the error is no
-- fault
abbrev pub Fails : {Y F : Type 0} → Option F → Result Y F → Type 0
Fails None reading = Unit {0}
Fails (Some fault) reading = reading ≡ Err fault

-- code returned what a reading gives, seen by view; an error that is no fault, as want of memory
-- is, says nothing
abbrev pub Gives : {X Y E F : Type 0} → (E → Option F) → (X → Y) → Result X E → Result Y F → Type 0
Gives fault_of view (Ok x) reading = reading ≡ Ok (view x)
Gives fault_of view (Err e) reading = Fails (fault_of e) reading

-- the cause of a fault that has one
abbrev pub cause_of : {C : Type 0} → Fault C → Option C
cause_of (Cause c) = Some c
cause_of NoMemory = None
