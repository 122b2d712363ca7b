-- Numbers that are all below a limit.
use Rattle.std.proofs.Common.{◌≡◌, ℕ, zero, suc, ◌+◌, ◌<◌, ◌≤◌, Bool, true, List, [], ◌∷◌, length, if◌then◌else◌, arith}
use Rattle.basics.proofs.Booleans.{eq_back, or_cases}
use Rattle.constraint_forms.specs.Assign.{planned}
use Rattle.policy_book.specs.Laws.Twins.{is_one_of}
use Rattle.policy_book.specs.Laws.Refuting.{passing}

-- each of these is below n
abbrev pub AllBelow : ℕ → List ℕ → Type 0
AllBelow n [] = Unit {0}
AllBelow n (u ∷ us) = (u < n) × AllBelow n us

below_if : (n k : ℕ) (b : Bool) (us : List ℕ) → k < n → AllBelow n us → AllBelow n (if b then k ∷ us else us)
below_if n k b us here rest = grind arith

pub passing_all : (n : ℕ) (test : ℕ → Bool) (k count : ℕ) → k + count ≤ n → AllBelow n (passing test k count)
passing_all n test k zero within = tt
passing_all n test k (suc count) within = grind (arith, below_if, (passing_all n test (k + 1) count (omega (arith, within))))

pub one_below : (n : ℕ) (us : List ℕ) (v : ℕ) → AllBelow n us → is_one_of us v ≡ true → v < n
one_below n [] v below one = cc
one_below n (u ∷ us) v below one = grind (arith, or_cases, eq_back, (one_below n us))

-- each user of a plan, where each step's is
pub planned_below : (n : ℕ) (plan : List ℕ) → ((s : ℕ) → s < length plan → planned plan s < n) → AllBelow n plan
planned_below n [] known = tt
planned_below n (u ∷ us) known = (known 0 (omega arith), planned_below n us (λ s below. known (suc s) (omega (arith, below))))
