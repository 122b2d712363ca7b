-- Two users whom a relation treats alike, exchanged.
use Rattle.std.proofs.Common.{◌≡◌, ℕ, ◌<◌, Bool, ◌==◌, nat_eq, sym, arith}
use Rattle.basics.proofs.Booleans.{bool_cases, eq_back, eq_is, eq_other, eq_same, same_by}
use Rattle.constraint_forms.specs.Laws.{AreInterchangeable, ExchangeDoesNotMatter, exchanged}
use Rattle.constraint_forms.proofs.RuleLaws.{sees_relatedness}

-- where a user goes: the first to the second, the second to the first, and any other nowhere
data Goes (u v a : ℕ) : Type 0 where
  first : a ≡ u → exchanged u v a ≡ v → Goes u v a
  second : a ≡ v → exchanged u v a ≡ u → Goes u v a
  other : (a ≡ u → ⊥) → (a ≡ v → ⊥) → exchanged u v a ≡ a → Goes u v a

goes : (u v a : ℕ) → Goes u v a
goes u v a = grind (arith, bool_cases, eq_back, eq_is)

relates_same :
    (users : ℕ) (holds : ℕ → ℕ → Bool) (u v a b : ℕ) → AreInterchangeable users holds u v → a < users → b < users →
    holds (exchanged u v a) (exchanged u v b) ≡ holds a b
relates_same users holds u v a b alike a_in b_in = grind (arith, goes)

eq_swap : (m n : ℕ) → nat_eq m n ≡ nat_eq n m
eq_swap m n = same_by (nat_eq m n) (nat_eq n m) (λ e. eq_is n m (sym (eq_back m n e))) (λ e. eq_is m n (sym (eq_back n m e)))

joins_same : (u v a b : ℕ) → (exchanged u v a == exchanged u v b) ≡ (a == b)
joins_same u v a b = grind (arith, goes, eq_same, eq_swap, eq_other)

pub exchange_does_not_matter : ExchangeDoesNotMatter
exchange_does_not_matter users related rule f u v known twins =
    sees_relatedness related rule (λ s. exchanged u v (f s)) f record {
      relate_same = λ rho s t read a b. relates_same users (related rho) u v (f s) (f t) (twins rho read) (known s a) (known t b);
      join_same = λ s t a b. joins_same u v (f s) (f t);
    }
