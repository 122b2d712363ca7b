-- Views in a list, at their seats, and the slot that a seat has.
use Rattle.std.proofs.Common.{◌≡◌, ◌≢◌, ◌⊎◌, ℕ, ◌<◌, List, [], ◌∷◌, ◌++◌, length, set, sym, ap, ◌∙◌, subst, arith}
use mathlib.Core.Option.{some, some-injective, some-ne-none}
use mathlib.Core.Logic.{dite}
use native.Mathlib.Decide.{ℕ_discrete}
use lib.ListN.{get_elem?}
use Rattle.atomic_table.specs.Table.{Me, rest}
use Rattle.atomic_table.proofs.Lists.{at_set, set_here, set_else}

module _ {V : Type 0} where
  -- an element that is there lies below the length
  pub there_below : (vs : List V) (i : ℕ) (v : V) → get_elem? vs i ≡ some v → i < length vs
  there_below [] i v e = absurd (some-ne-none v (sym e))
  there_below (x ∷ vs) i v e = grind (arith, (there_below vs))

  -- with one element more, an element that is there was there, or is the new one at the end
  pub at_one_more : (vs : List V) (w u : V) (j : ℕ) → get_elem? (vs ++ w ∷ []) j ≡ some u → (get_elem? vs j ≡ some u) ⊎ ((j ≡ length vs) × (w ≡ u))
  at_one_more [] w u j e = grind (arith, some-injective, some-ne-none)
  at_one_more (x ∷ vs) w u j e = grind (arith, (at_one_more vs))

  -- what holds of the seat that changes, and of the others, holds of all
  pub seats : (F : ℕ → V → Type 0) (vs : List V) (id : ℕ) (w : V) → F id w → ((j : ℕ) (u : V) → j ≢ id → get_elem? vs j ≡ some u → F j u)
      → (j : ℕ) (u : V) → get_elem? (set vs id w) j ≡ some u → F j u
  seats F vs id w mine others j u there = grind (arith, at_set)

  -- a seat with a fact is still there after a change that keeps the fact
  pub still : (P : V → Type 0) (vs : List V) (id : ℕ) (v w : V) → get_elem? vs id ≡ some v → (P v → P w) → (j : ℕ) → ((u : V) × (get_elem? vs j ≡ some u) × P u)
      → (u : V) × (get_elem? (set vs id w) j ≡ some u) × P u
  still P vs id v w at keep j h = dite (ℕ_discrete j id)
      (λ e. let same : h.0 ≡ v = some-injective h.0 v (sym h.1 ∙ (ap (get_elem? vs) e ∙ at)) in (
        w,
        ap (get_elem? (set vs id w)) e ∙ set_here vs id w (there_below vs id v at),
        keep (subst P same h.2),
      ))
      (λ ne. (h.0, set_else vs id j w ne ∙ h.1, h.2))

module _ {S V : Type 0} where
  -- a seat that took a slot has it before all others, with the value that it found
  pub slot_in_hand : (me : Me S V) (w : V) (x : S) (xs : List (ℕ × S)) → me ≡ (w, (0, x) ∷ xs) → me.1 ≡ (0, x) ∷ rest me.1
  slot_in_hand me w x xs e = ap (λ m. m.1) e ∙ ap (λ l. (0, x) ∷ l) (sym (ap (λ m. rest m.1) e))
