-- What is said of a decision, and of why it is none.
use Rattle.wf_board.proofs.Common.{◌≡◌, Bool, List, [], ◌∷◌, Option, None, Some, Result, Ok, Err, arith, ◌>>=◌, or_fault, Denial, unless, Deed, unless_denied}
use Rattle.std.specs.Option.{option_map}
use Rattle.basics.specs.Laws.Reading.{check}
use Rattle.admin_edits.specs.ClaimCauses.{first_of}

-- P holds of what was read, and Q of why it was not
abbrev pub Fares : {A F : Type 0} → (A → Type 0) → (F → Type 0) → Result A F → Type 0
Fares P Q (Ok x) = P x
Fares P Q (Err d) = Q d

pub then_fares : {A B F : Type 0} (P : A → Type 0) (R : B → Type 0) (Q : F → Type 0) (r : Result A F) (f : A → Result B F) → Fares P Q r
    → ((x : A) → P x → Fares R Q (f x)) → Fares R Q (r >>= f)
then_fares P R Q r f has each = grind arith

pub or_fares : {A F : Type 0} (Q : F → Type 0) (o : Option A) (d : F) → Q d → Fares (λ x. o ≡ Some x) Q (or_fault o d)
or_fares Q o d none = grind arith

pub check_fares : {F : Type 0} (Q : F → Type 0) (b : Bool) (d : F) → Q d → Fares (λ _. Unit {0}) Q (check b d)
check_fares Q b d failed = grind arith

-- Q holds of the cause, if there is one
abbrev pub IsCauseSo : (Denial → Type 0) → Option Denial → Type 0
IsCauseSo Q None = Unit {0}
IsCauseSo Q (Some d) = Q d

abbrev pub AreCausesSo : (Denial → Type 0) → List (Option Denial) → Type 0
AreCausesSo Q [] = Unit {0}
AreCausesSo Q (o ∷ os) = IsCauseSo Q o × AreCausesSo Q os

pub first_so : (Q : Denial → Type 0) (os : List (Option Denial)) → AreCausesSo Q os → IsCauseSo Q (first_of os)
first_so Q [] all = tt
first_so Q (Some d ∷ os) all = all.0
first_so Q (None ∷ os) all = first_so Q os all.1

pub four_so : (Q : Denial → Type 0) (first second third fourth : Option Denial) → IsCauseSo Q first → IsCauseSo Q second → IsCauseSo Q third →
    IsCauseSo Q fourth
    → IsCauseSo Q (first_of (first ∷ second ∷ third ∷ fourth ∷ []))
four_so Q first second third fourth a b c d = first_so Q (first ∷ second ∷ third ∷ fourth ∷ []) (a, (b, (c, (d, tt))))

pub unless_so : (Q : Denial → Type 0) (b : Bool) (d : Denial) → Q d → IsCauseSo Q (unless b d)
unless_so Q b d so = grind arith

pub map_so : {A : Type 0} (Q : Denial → Type 0) (f : A → Denial) (o : Option A) → ((x : A) → o ≡ Some x → Q (f x)) → IsCauseSo Q (option_map f o)
map_so Q f o so = grind arith

pub unless_fares : (P : Deed → Type 0) (Q : Denial → Type 0) (given : Deed) (o : Option Denial) → P given → IsCauseSo Q o → Fares P Q (unless_denied given o)
unless_fares P Q given o has so = grind arith
