-- The test of a chain of pairs, and the chains themselves.
use Rattle.std.proofs.Common.{◌≡◌, ℕ, zero, suc, ◌<◌, ◌⊎◌, inl, inr, Bool, true, subst, arith}
use Rattle.std.proofs.lemmas.Bool.{cases_eq}
use Rattle.std.specs.FinSet as set
use Rattle.basics.specs.Laws.Pairs.{Pairs}
use Rattle.wf_names.specs.declared.limits.TheConstants.{STEP_LIMIT}
use Rattle.workflow_schema.specs.Tables.{leads}
use Rattle.workflow_schema.specs.Flows.{Precedes, next, through, is_before}
use Rattle.basics.proofs.Booleans.{or_cases, or_left, or_right, and_both, and_from}

pub leads_pair : (near : ℕ → ℕ → Bool) (n a b : ℕ) → near a b ≡ true → leads n near a b ≡ true
unfolding leads
leads_pair near zero a b h = h
leads_pair near (suc n) a b h = or_left _ _ (leads_pair near n a b h)

-- a chain that may pass through n, where one that does not ends at n
to_last : (near : ℕ → ℕ → Bool) (n a : ℕ) → leads (suc n) near a n ≡ true → leads n near a n ≡ true
unfolding leads
to_last near n a h = elim (or_cases _ _ h) [ inl e ↦ e | inr e ↦ (and_both _ _ e).0 ]

from_last : (near : ℕ → ℕ → Bool) (n b : ℕ) → leads (suc n) near n b ≡ true → leads n near n b ≡ true
unfolding leads
from_last near n b h = elim (or_cases _ _ h) [ inl e ↦ e | inr e ↦ (and_both _ _ e).1 ]

over_last : (near : ℕ → ℕ → Bool) (n a b : ℕ) → leads n near a n ≡ true → leads n near n b ≡ true → leads (suc n) near a b ≡ true
unfolding leads
over_last near n a b h i = or_right _ _ (and_from _ _ h i)

within : (near : ℕ → ℕ → Bool) (n a b : ℕ) → leads n near a b ≡ true → leads (suc n) near a b ≡ true
unfolding leads
within near n a b h = or_left _ _ h

parts : (near : ℕ → ℕ → Bool) (n a b : ℕ) → leads (suc n) near a b ≡ true → (leads n near a b ≡ true) ⊎ ((leads n near a n ≡ true) × (leads n near n b ≡ true))
unfolding leads
parts near n a b h = elim (or_cases _ _ h) [ inl e ↦ inl e | inr e ↦ inr (and_both _ _ e) ]

-- chains that meet at a number below n are one chain
pub leads_chain : (near : ℕ → ℕ → Bool) (n a m b : ℕ) → m < n → leads n near a m ≡ true → leads n near m b ≡ true → leads n near a b ≡ true
leads_chain near zero a m b h i j = absurd (omega arith)
leads_chain near (suc n) a m b h i j =
    elim (cases_eq m n) [
      | inl e ↦
          over_last near n a b
          (to_last near n a (subst (λ k. leads (suc n) near a k ≡ true) e i))
          (from_last near n b (subst (λ k. leads (suc n) near k b ≡ true) e j))
      | inr ne ↦
          let below : m < n = omega arith in
          elim (parts near n a m i) [
            | inl i ↦
                elim (parts near n m b j) [
                  | inl j ↦ within near n a b (leads_chain near n a m b below i j)
                  | inr j ↦ over_last near n a b (leads_chain near n a m n below i j.0) j.1
                ]
            | inr i ↦
                elim (parts near n m b j) [
                  | inl j ↦ over_last near n a b i.0 (leads_chain near n n m b below i.1 j)
                  | inr j ↦ over_last near n a b i.0 j.1
                ]
          ]
    ]

pub append : {order : Pairs} {s t u : ℕ} → Precedes order s t → Precedes order t u → Precedes order s u
append (next h) r = through h r
append (through h q) r = through h (append q r)

chain_of : (order : Pairs) (n s t : ℕ) → leads n (λ a b. set.contains order (a, b)) s t ≡ true → Precedes order s t
unfolding leads
chain_of order zero s t h = next h
chain_of order (suc n) s t h =
    elim (or_cases _ _ h) [
      | inl e ↦ chain_of order n s t e
      | inr e ↦ append (chain_of order n s n (and_both _ _ e).0) (chain_of order n n t (and_both _ _ e).1)
    ]

of_chain : {order : Pairs} {s t : ℕ} (n : ℕ) → ((a b : ℕ) → set.contains order (a, b) ≡ true → b < n) → Precedes order s t →
    leads n (λ a b. set.contains order (a, b)) s t ≡ true
of_chain n h (next e) = leads_pair _ n _ _ e
of_chain n h (through e r) = leads_chain _ n _ _ _ (h _ _ e) (leads_pair _ n _ _ e) (of_chain n h r)

pub before_is_chain : (order : Pairs) (s t : ℕ) → is_before order s t ≡ true → Precedes order s t
unfolding is_before
before_is_chain order s t h = chain_of order STEP_LIMIT s t h

pub chain_is_before : (order : Pairs) (s t : ℕ) → ((a b : ℕ) → set.contains order (a, b) ≡ true → b < STEP_LIMIT) → Precedes order s t →
    is_before order s t ≡ true
unfolding is_before
chain_is_before order s t h r = of_chain STEP_LIMIT h r
