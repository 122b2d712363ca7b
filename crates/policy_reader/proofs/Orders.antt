-- The order of a workflow, read as a set of pairs: the least step before itself.
use Rattle.std.proofs.Common.{◌≡◌, ℕ, zero, suc, ◌<◌, ◌≤◌, Bool, true, false, List, [], Option, None, Some, refl, ap, inl, inr, arith, length}
use Rattle.std.proofs.Common.{Ok, Err, slice_index_or}
use Rattle.std.specs.FinSet as set
use Rattle.policy_reader.specs.declared.fault.ReadFault.TheVariants as read
use Rattle.policy_reader.specs.declared.fault.PolicyKind.TheVariants as kind
use Rattle.policy_reader.proofs.Words.{cases_lt, not_true, STEP_LIMIT, Pairs, all_insert, Precedes, is_before, IsLeastCycle, AreBelow}
use Rattle.policy_reader.proofs.Words.{least_below, found_or, cycle_at, Fails, Flows, fault_of, fault_about, IsCycleOrMemory}
use Rattle.workflow_schema.specs.Laws.{OrderIsDecided}
use Rattle.policy_reader.specs.Flows.{no_cycle}
use Rattle.workflow_schema.specs.declared.fault.FlowFault.{FlowFault}
use Rattle.workflow_schema.specs.declared.fault.FlowFault.TheVariants.{TooMany, Twice, Cycle, NoMemory}
use Rattle.policy_reader.specs.declared.fault.ReadFault.{ReadFault}

-- the least number that passes
pub least_none : (n : ℕ) (test : ℕ → Bool) → ((t : ℕ) → t < n → test t ≡ false) → least_below n test ≡ None
least_none zero test h = refl
least_none (suc n) test h = rw (least_none n test (λ t lt. h t (omega (arith, lt))), h n (omega arith)) refl

pub least_is : (n : ℕ) (test : ℕ → Bool) (s : ℕ) → s < n → test s ≡ true → ((t : ℕ) → t < s → test t ≡ false) → least_below n test ≡ Some s
least_is zero test s lt here before = absurd (omega (arith, lt))
least_is (suc n) test s lt here before =
    elim (cases_lt s n) [
      | inl below ↦ rw (least_is n test s below here before) refl
      | inr above ↦ grind (arith, least_none)
    ]

record IsLeast (n : ℕ) (test : ℕ → Bool) (s : ℕ) : Type 0 where
  pub within : s < n
  pub here : test s ≡ true
  pub before : (t : ℕ) → t < s → test t ≡ false

-- what a search that ended at s, or found none, tells
abbrev Tells : ℕ → (ℕ → Bool) → Option ℕ → Type 0
Tells n test None = (t : ℕ) → t < n → test t ≡ false
Tells n test (Some s) = IsLeast n test s

tells_more : (n : ℕ) (test : ℕ → Bool) (o : Option ℕ) (b : Bool) → test n ≡ b → Tells n test o → Tells (suc n) test (found_or o n b)
tells_more n test o b e h = grind arith

least_tells : (n : ℕ) (test : ℕ → Bool) → Tells n test (least_below n test)
least_tells zero test = λ t lt. absurd (omega (arith, lt))
least_tells (suc n) test = tells_more n test (least_below n test) (test n) refl (least_tells n test)

-- the step at which a chain begins is in range
first_below : (n : ℕ) (order : Pairs) (s t : ℕ) → AreBelow n order → Precedes order s t → s < n
first_below n order s t within h5 = grind arith

-- the least step before itself is the one that the search finds
pub cycle_found : OrderIsDecided → (n : ℕ) (order : Pairs) (s : ℕ) → n ≤ STEP_LIMIT → AreBelow n order → IsLeastCycle order s →
    least_below n (λ t. is_before order t t) ≡ Some s
cycle_found decided n order s few within h =
    least_is n (λ t. is_before order t t) s (first_below n order s s within h.cycle)
    ((decided order s s (λ a b pair. omega (arith, few, (within.each a b pair).1))).1 h.cycle)
    (λ t lt. not_true (is_before order t t) (λ e. h.least t lt ((decided order t t (λ a b pair. omega (arith, few, (within.each a b pair).1))).0 e)))

least_cycle : OrderIsDecided → (n : ℕ) (order : Pairs) (s : ℕ) → n ≤ STEP_LIMIT → AreBelow n order → IsLeast n (λ t. is_before order t t) s →
    IsLeastCycle order s
least_cycle decided n order s few within h = grind arith

none_found : OrderIsDecided → (n : ℕ) (order : Pairs) (o : Option ℕ) → n ≤ STEP_LIMIT → AreBelow n order → ((s : ℕ) → IsLeastCycle order s → ⊥) →
    Tells n (λ t. is_before order t t) o → o ≡ None
none_found decided n order o few within free h = grind (arith, least_cycle)

-- where no step is the least before itself, the search finds none
pub no_cycle_found : OrderIsDecided → (n : ℕ) (order : Pairs) → n ≤ STEP_LIMIT → AreBelow n order → ((s : ℕ) → IsLeastCycle order s → ⊥) →
    least_below n (λ t. is_before order t t) ≡ None
no_cycle_found decided n order few within free = none_found decided n order _ few within free (least_tells n (λ t. is_before order t t))

pub cycle_within : (n : ℕ) (order : Pairs) (s : ℕ) → AreBelow n order → IsLeastCycle order s → s < n
cycle_within n order s within h = first_below n order s s within h.cycle

-- the roles of permissions, with one more
pub permits_insert : (n : ℕ) (permits : Pairs) (r s : ℕ) → ((a b : ℕ) → set.contains permits (a, b) ≡ true → a < n) → r < n → (a b : ℕ) →
    set.contains (set.insert permits (r, s)) (a, b) ≡ true → a < n
permits_insert n permits r s old here = (all_insert (λ a b. a < n) permits r s here (record { each = old })).each

pub below_limit : (n m : ℕ) (pairs : Pairs) → n ≤ m → AreBelow n pairs → AreBelow m pairs
below_limit n m pairs le h = record { each = λ a b here. let both = h.each a b here in (omega (arith, le, both.0), omega (arith, le, both.1)) }

-- ---- what a workflow that was refused tells of its order

pub no_cycle-ok : (f : ℕ) (steps : List (List ℕ)) (order : Pairs) → least_below (length steps) (λ s. is_before order s s) ≡ None →
    no_cycle f steps order ≡ Ok tt
unfolding no_cycle
no_cycle-ok f steps order e = ap (cycle_at f steps) e

no_cycle-err : (f : ℕ) (steps : List (List ℕ)) (order : Pairs) (s : ℕ) → least_below (length steps) (λ t. is_before order t t) ≡ Some s
    → no_cycle f steps order ≡ Err (fault_about kind.Cycle Flows f (slice_index_or steps s []))
unfolding no_cycle
no_cycle-err f steps order s e = ap (cycle_at f steps) e

-- a workflow that was refused neither for its count nor for a pair that stands twice
pub other_fault : (counted : Bool) (fault : FlowFault) → counted ≡ true → (fault ≡ TooMany → counted ≡ false) → (fault ≡ Twice → ⊥) → IsCycleOrMemory fault
other_fault counted fault is many twice = grind arith

pub refused : (fault : FlowFault) (result : ReadFault) (f : ℕ) (steps : List (List ℕ)) (order : Pairs) → IsCycleOrMemory fault
    → ((s : ℕ) → fault ≡ Cycle s → result ≡ read.Policy (fault_about kind.Cycle Flows f (slice_index_or steps s [])))
    → (fault ≡ NoMemory → result ≡ read.NoMemory)
    → ((s : ℕ) → fault ≡ Cycle s → least_below (length steps) (λ t. is_before order t t) ≡ Some s)
    → Fails (fault_of result) (no_cycle f steps order)
refused TooMany result f steps order known told memory least = absurd known
refused Twice result f steps order known told memory least = absurd known
refused (Cycle s) result f steps order known told memory least = rw (told s refl) (no_cycle-err f steps order s (least s refl))
refused NoMemory result f steps order known told memory least = rw (memory refl) tt
