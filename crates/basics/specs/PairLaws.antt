-- Laws of finite sets of pairs.
use Rattle.std.specs.Prelude.{[], ◌≡◌, ℕ, true, false, not, ◌&&◌, ◌||◌}
use Rattle.std.proofs.Common.{refl, sym, ap, subst, ◌∙◌, ◌⊎◌, inl, inr}
use Rattle.std.specs.Cmp.{IsTotalOrder, nat_cmp_total}
use Rattle.std.proofs.lemmas.Cmp.{on_total, then_total}
use Rattle.std.proofs.lemmas.Map.Views.{tells_apart}
use Rattle.std.specs.Ordering.{nat_cmp, eq_by_cmp, ordering_then}
use Rattle.std.specs.declared.cmp.Ordering.{Ordering}
use Rattle.std.specs.declared.cmp.Ordering.TheVariants.{Less, Equal, Greater}
use Rattle.std.specs.FinSet as set
use Rattle.std.specs.FinSet.{IsAntisymmetric, nat_cmp-IsAntisymmetric}
use Rattle.basics.specs.Laws.Pairs.{pair_cmp, Pairs, IsAscending, AllPairs}
use Rattle.std.specs.List.Sorted.{IsStrictlySortedBy}

pub pair_cmp_total : IsTotalOrder pair_cmp
pair_cmp_total = then_total (on_total (λ (x : ℕ × ℕ). x.0) nat_cmp_total)
    (on_total (λ (x : ℕ × ℕ). x.1) nat_cmp_total)

-- only equal pairs tie
pub pair_cmp-IsAntisymmetric : IsAntisymmetric pair_cmp
pair_cmp-IsAntisymmetric x y e =
    elim (nat_cmp x.0 y.0) as
    (λ r. nat_cmp x.0 y.0 ≡ r → ordering_then r (nat_cmp x.1 y.1) ≡ Equal → x ≡ y) [
      | Less ↦ λ p e. cc
      | Equal ↦ λ p e i. (nat_cmp-IsAntisymmetric x.0 y.0 p i, nat_cmp-IsAntisymmetric x.1 y.1 e i)
      | Greater ↦ λ p e. cc
    ] refl e

module _ {K : Type 0} {R : K → K → Ordering} (o : IsTotalOrder R) (exact : IsAntisymmetric R) where
  -- what an element answers decides whether a set is changed by it
  or_absorbs : (s : set.FinSet R) (k q : K) → set.contains s k ≡ true →
      (eq_by_cmp R q k || set.contains s q) ≡ set.contains s q
  or_absorbs s k q held =
      elim (eq_by_cmp R q k) as
      (λ b. eq_by_cmp R q k ≡ b → (b || set.contains s q) ≡ set.contains s q) [
        | true ↦ λ e. sym (ap (set.contains s) (tells_apart exact q k e) ∙ held)
        | false ↦ λ e. refl
      ] refl

  and_absorbs : (s : set.FinSet R) (k q : K) → set.contains s k ≡ false →
      (not (eq_by_cmp R q k) && set.contains s q) ≡ set.contains s q
  and_absorbs s k q free =
      elim (eq_by_cmp R q k) as
      (λ b. eq_by_cmp R q k ≡ b → (not b && set.contains s q) ≡ set.contains s q) [
        | true ↦ λ e. sym (ap (set.contains s) (tells_apart exact q k e) ∙ free)
        | false ↦ λ e. refl
      ] refl

  -- an element that is there is no news
  pub insert_held : (s : set.FinSet R) (k : K) → set.contains s k ≡ true → set.insert s k ≡ s
  insert_held s k held =
      set.same_set o exact _ _ (λ q. set.contains-insert o s k q ∙ or_absorbs s k q held)

  -- what is not there cannot be taken out
  pub remove_absent : (s : set.FinSet R) (k : K) → set.contains s k ≡ false → set.remove s k ≡ s
  remove_absent s k free =
      set.same_set o exact _ _ (λ q. set.contains-remove o s k q ∙ and_absorbs s k q free)

  -- an element of the larger set is the new one or was there
  pub either_inserted : (s : set.FinSet R) (k q : K) → set.contains (set.insert s k) q ≡ true →
      (q ≡ k) ⊎ (set.contains s q ≡ true)
  either_inserted s k q here =
      elim (eq_by_cmp R q k) as (λ b. eq_by_cmp R q k ≡ b → (b || set.contains s q) ≡ true →
      (q ≡ k) ⊎ (set.contains s q ≡ true)) [
        | true ↦ λ e _. inl (tells_apart exact q k e)
        | false ↦ λ _ h. inr h
      ] refl (sym (set.contains-insert o s k q) ∙ here)

  pub was_there : (s : set.FinSet R) (k q : K) → set.contains (set.remove s k) q ≡ true →
      set.contains s q ≡ true
  was_there s k q here =
      elim (eq_by_cmp R q k) as
      (λ b. (not b && set.contains s q) ≡ true → set.contains s q ≡ true) [
        | true ↦ λ h. cc
        | false ↦ λ h. h
      ] (sym (set.contains-remove o s k q) ∙ here)

-- what holds of each pair after a change
pub all_empty : (P : ℕ → ℕ → Type 0) → AllPairs P set.empty
all_empty P = record { each = λ a b h. let none = set.contains-empty pair_cmp (a, b) in cc }

pub all_insert : (P : ℕ → ℕ → Type 0) (s : Pairs) (a b : ℕ) → P a b → AllPairs P s →
    AllPairs P (set.insert s (a, b))
all_insert P s a b here all = record {
  each = λ x y h. elim (either_inserted pair_cmp_total pair_cmp-IsAntisymmetric s (a, b) (x, y) h) [
    | inl e ↦ subst (λ (q : ℕ × ℕ). P q.0 q.1) (sym e) here
    | inr was ↦ all.each x y was
  ];
}

pub all_remove : (P : ℕ → ℕ → Type 0) (s : Pairs) (a b : ℕ) → AllPairs P s →
    AllPairs P (set.remove s (a, b))
all_remove P s a b all = record {
  each = λ x y h. all.each x y
      (was_there pair_cmp_total pair_cmp-IsAntisymmetric s (a, b) (x, y) h);
}

pub ascending_none : IsAscending []
unfolding IsStrictlySortedBy
ascending_none = tt
