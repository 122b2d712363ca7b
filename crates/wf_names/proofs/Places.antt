-- The place of a name among distinct names.
use Rattle.std.proofs.Common.{IsTrue, ◌≡◌, ℕ, true, false, List, [], ◌∷◌, Some, sym, subst, ◌∙◌, arith}
use Prim.Native.Nat.{zero, suc}
use Rattle.std.specs.Prelude.{slice_get, nat_eq}
use Rattle.std.specs.List.{All, IsDistinct, AllByRecursion, position_or_len}
use Rattle.std.specs.Cmp.Lexicographic.{pointwise, nat_list_eq_equiv}
use Rattle.std.proofs.lemmas.Bool.{lt-ltb}
use Rattle.std.proofs.lemmas.Option.{slice_get_within}
use Rattle.std.proofs.lemmas.Option.{get_or_from_slice_get}
use Rattle.wf_names.specs.Names.{is_name}
use Rattle.wf_names.specs.Table.{place_of, AreNames}

abbrev Differ : List ℕ → List (List ℕ) → Type 0
Differ x xs = AllByRecursion (λ y. pointwise nat_eq x y ≡ false) xs

differs_at : (x : List ℕ) (xs : List (List ℕ)) (n : ℕ) (k : List ℕ) → Differ x xs → slice_get xs n ≡ Some k → pointwise nat_eq x k ≡ false
differs_at x [] n k h e = cc
differs_at x (y ∷ ys) zero k h e = let same : y ≡ k = cc in subst (λ (z : List ℕ). pointwise nat_eq x z ≡ false) same h.0
differs_at x (y ∷ ys) (suc n) k h e = differs_at x ys n k h.1 e

first_place : (ks : List (List ℕ)) (n : ℕ) (k : List ℕ) → IsDistinct (pointwise nat_eq) ks → slice_get ks n ≡ Some k →
    position_or_len (pointwise nat_eq k) ks ≡ n
unfolding IsDistinct
first_place [] n k h e = cc
first_place (x ∷ xs) zero k h e =
    let same : x ≡ k = cc in
    let passes : pointwise nat_eq k x ≡ true = subst (λ (z : List ℕ). pointwise nat_eq k z ≡ true) (sym same) (nat_list_eq_equiv.refl k) in
    rw passes
first_place (x ∷ xs) (suc n) k h e =
    let other : pointwise nat_eq k x ≡ false = nat_list_eq_equiv.symm k x ∙ differs_at x xs n k h.0 e in
    let rest : position_or_len (pointwise nat_eq k) xs ≡ n = first_place xs n k h.1 e in
    rw (other, rest) (omega arith)

-- a name stands at one place alone
pub place_of-name : (names : List (List ℕ)) (n : ℕ) (name : List ℕ) → IsDistinct (pointwise nat_eq) names → slice_get names n ≡ Some name →
    place_of names name ≡ Some n
place_of-name names n name h e = grind (arith, first_place, lt-ltb, slice_get_within)

-- distinct names, each of a name's form
pub are_names : (names : List (List ℕ)) → IsDistinct (pointwise nat_eq) names → All (λ name. IsTrue (is_name name)) names → AreNames names
are_names names distinct named = grind (arith, get_or_from_slice_get, slice_get_within, place_of-name)
