-- Lists of pairs, read from their ends.
use Rattle.std.proofs.Common.{◌≡◌, ℕ, zero, suc, ◌+◌, ◌<◌, true, false, ◌&&◌, ◌||◌, nat_eq, List, [], ◌∷◌, length, drop, get_or, refl, sym, ap, subst, ◌∙◌}
use Rattle.std.proofs.Common.{add-one, drop-cons, replicate, arith}
use Rattle.std.proofs.lemmas.List.{get_or_default}
use Rattle.std.specs.FinSet as set
use Rattle.std.specs.Ordering.{eq_by_cmp, is_eq, nat_cmp, ordering_then}
use Rattle.std.specs.declared.cmp.Ordering.{Ordering}
use Rattle.std.specs.Cmp.{unsigned_tied}
use Rattle.workflow_schema.specs.Tables.{is_set, table_has}
use Rattle.workflow_schema.proofs.Words.{is_set-zero}
use Rattle.basics.specs.Laws.Pairs.{Pairs, pair_cmp}
use Rattle.basics.specs.PairLaws.{pair_cmp_total}
use Rattle.workflow_schema.specs.Flows.{has_twice}
use Rattle.basics.proofs.Booleans.{or_left, or_right}

-- the set of the pairs from a place on
abbrev pub set_from : List (ℕ × ℕ) → ℕ → Pairs
set_from ps i = set.from_list (drop i ps)

pub set_from-step : (ps : List (ℕ × ℕ)) (i : ℕ) (d : ℕ × ℕ) → i < length ps → set_from ps i ≡ set.insert (set_from ps (i + 1)) (get_or ps i d)
set_from-step ps i d h = rw (add-one i) (ap set.from_list (drop-cons ps i d h))

pub twice-step : (ps : List (ℕ × ℕ)) (i : ℕ) (d : ℕ × ℕ) → i < length ps →
    has_twice (drop i ps) ≡ (set.contains (set_from ps (i + 1)) (get_or ps i d) || has_twice (drop (i + 1) ps))
twice-step ps i d h = rw (add-one i) (ap has_twice (drop-cons ps i d h))

pub twice-drop : (ps : List (ℕ × ℕ)) (i : ℕ) → has_twice (drop i ps) ≡ true → has_twice ps ≡ true
twice-drop ps zero h = h
twice-drop [] (suc i) h = h
twice-drop (p ∷ ps) (suc i) h = or_right _ _ (twice-drop ps i h)

pub drop-end : (ps : List (ℕ × ℕ)) → drop (length ps) ps ≡ []
drop-end [] = refl
drop-end (p ∷ ps) = drop-end ps

then_equal : (x y : Ordering) → is_eq (ordering_then x y) ≡ (is_eq x && is_eq y)
then_equal x y = grind arith

tied : (a b : ℕ) → is_eq (nat_cmp a b) ≡ nat_eq a b
tied a b = unsigned_tied a b

-- two pairs are equal where both their numbers are
pub eq_pair : (a b c d : ℕ) → eq_by_cmp pair_cmp (a, b) (c, d) ≡ (nat_eq a c && nat_eq b d)
eq_pair a b c d = then_equal (nat_cmp a c) (nat_cmp b d) ∙ (λ i. tied a c i && tied b d i)

pub contains-one_more : (pairs : Pairs) (s t a b : ℕ) →
    set.contains (set.insert pairs (s, t)) (a, b) ≡ ((nat_eq a s && nat_eq b t) || set.contains pairs (a, b))
contains-one_more pairs s t a b = set.contains-insert pair_cmp_total pairs (s, t) (a, b) ∙ ap (λ x. x || set.contains pairs (a, b)) (eq_pair a b s t)

zero_at : (n i : ℕ) → get_or {A = ℕ} (replicate n 0) i 0 ≡ 0
zero_at zero zero = refl
zero_at zero (suc i) = refl
zero_at (suc n) zero = refl
zero_at (suc n) (suc i) = zero_at n i

pub no_flags : (n a b : ℕ) → table_has (replicate n 0) a b ≡ false
no_flags n a b = ap (λ w. is_set w b) (zero_at n a) ∙ is_set-zero b

-- the empty table has the pairs of no pair
pub flags_start : (n : ℕ) (ps : List (ℕ × ℕ)) (a b : ℕ) (q : ℕ × ℕ) → table_has (replicate n 0) a b ≡ set.contains (set_from ps (length ps)) q
flags_start n ps a b q = no_flags n a b ∙ sym (ap (λ ks. set.contains (set.from_list {R = pair_cmp} ks) q) (drop-end ps) ∙ set.contains-empty pair_cmp q)

pub twice_start : (ps : List (ℕ × ℕ)) → has_twice (drop (length ps) ps) ≡ false
twice_start ps = ap has_twice (drop-end ps)

module _ (ps : List (ℕ × ℕ)) (i j s t : ℕ) (d e : ℕ × ℕ) (next : i ≡ j + 1) (h : j < length ps) (hs : s ≡ (get_or ps j d).0) (ht : t ≡ (get_or ps j e).1) where
  pair_is : (s, t) ≡ get_or ps j d
  pair_is = λ k. (hs k, (ht ∙ ap (λ (p : ℕ × ℕ). p.1) (sym (get_or_default ps j d e h))) k)

  -- the pair at place j stands again after it
  pub found_twice : set.contains (set_from ps i) (s, t) ≡ true → has_twice ps ≡ true
  found_twice found =
      twice-drop ps j
      (twice-step ps j d h
      ∙ or_left _ _ (subst (λ q. set.contains (set_from ps (j + 1)) q ≡ true) pair_is (subst (λ n. set.contains (set_from ps n) (s, t) ≡ true) next found)))

  pub not_twice : set.contains (set_from ps i) (s, t) ≡ false → has_twice (drop i ps) ≡ false → has_twice (drop j ps) ≡ false
  not_twice absent single =
      twice-step ps j d h
      ∙ (λ k. subst (λ q. set.contains (set_from ps (j + 1)) q ≡ false) pair_is (subst (λ n. set.contains (set_from ps n) (s, t) ≡ false) next absent) k
      || subst (λ n. has_twice (drop n ps) ≡ false) next single k)

  pub with_pair : (a b : ℕ) → set.contains (set_from ps j) (a, b) ≡ ((nat_eq a s && nat_eq b t) || set.contains (set_from ps i) (a, b))
  with_pair a b =
      ap (λ (pairs : Pairs). set.contains pairs (a, b))
      (set_from-step ps j d h ∙ (λ k. set.insert (set_from ps (sym next k)) (sym pair_is k)))
      ∙ contains-one_more (set_from ps i) s t a b
