-- Tests of the numbers below another one.
use Rattle.std.proofs.Common.{◌≡◌, ℕ, ◌<◌, Bool, true, ◌&&◌, length, inl, inr, subst, arith}
use Rattle.basics.proofs.Booleans.{and_both, or_cases}
use Rattle.rbac_state.specs.Laws.Rosters.{RosterShape, IsSoundRoster, has_role}
use Prim.Native.Nat.{zero, suc}
use Rattle.std.proofs.Math.Bool.{or-true}
use Rattle.policy_book.specs.Policies.{any_below}
use Rattle.policy_book.proofs.Keeping.{below_or_at}

-- where some number passes, some number does
pub any_below-at : (n k : ℕ) (test : ℕ → Bool) → k < n → test k ≡ true → any_below n test ≡ true
any_below-at zero k test h passes = absurd (omega arith)
any_below-at (suc n) k test h passes = elim (below_or_at k n (omega arith)) [
  | inl before ↦ rw (any_below-at n k test before passes)
  | inr here ↦ let last = subst (λ (m : ℕ). test m ≡ true) here passes in rw (last, or-true)
]

-- and where some number does, there is one that passes
pub any_below-some : (P : Type 0) (n : ℕ) (test : ℕ → Bool) → ((k : ℕ) → test k ≡ true → P) → any_below n test ≡ true → P
any_below-some P zero test then none = absurd (cc)
any_below-some P (suc n) test then some = elim (or_cases (any_below n test) (test n) some) [
  | inl before ↦ any_below-some P n test then before
  | inr here ↦ then n here
]

-- who holds one of some roles is a user
pub holder_known : (roster : RosterShape) (u n : ℕ) (permitted : ℕ → Bool) → IsSoundRoster roster
    → any_below n (λ r. has_role roster u r && permitted r) ≡ true → u < length roster.users
holder_known roster u n permitted sound some =
    any_below-some (u < length roster.users) n (λ r. has_role roster u r && permitted r)
    (λ r both. (sound.members.each u r (and_both (has_role roster u r) (permitted r) both).0).0) some
