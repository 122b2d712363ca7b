-- Parts of a set of pairs, as they are read or written line by line.
use Rattle.std.proofs.Common.{◌≡◌, ℕ, suc, ◌<◌, Bool, true, false, ◌||◌, ◌&&◌, nat_eq, nat_lt, map, refl, sym, ap, ◌∙◌, arith, Result, Ok}
use Rattle.std.specs.FinSet as set
use Rattle.policy_reader.proofs.Prints.{eq_by_cmp, is_eq, tied_itself, and_same, and_swap, and-false, eq_same, lt_yes, lt_no, Pairs}
use Rattle.policy_reader.proofs.Prints.{pair_cmp, pair_cmp_total, pair_cmp-IsAntisymmetric, each, chosen}
use Rattle.std.proofs.lemmas.Map.Views.{tells_apart}
use Rattle.policy_reader.proofs.PairSets.{same_pairs}
use Rattle.policy_reader.proofs.Readings.{chosen_back}

pub itself : (q : ℕ × ℕ) → eq_by_cmp pair_cmp q q ≡ true
itself q = ap is_eq (tied_itself pair_cmp_total q)

-- ---- parts

module _ (whole : Pairs) where
  abbrev pub part : (ℕ × ℕ → Bool) → Pairs
  part test = set.retain whole test

  in_part : (test : ℕ × ℕ → Bool) (q : ℕ × ℕ) → set.contains (part test) q ≡ (set.contains whole q && test q)
  in_part test q = set.contains-retain whole test q (λ x e. ap test (sym (pair_cmp-IsAntisymmetric q x e)))

  pub same_part : (s t : ℕ × ℕ → Bool) → ((q : ℕ × ℕ) → set.contains whole q ≡ true → s q ≡ t q) → part s ≡ part t
  same_part s t h = same_pairs (part s) (part t) (λ q. in_part s q ∙ and_same (set.contains whole q) (s q) (t q) (h q) ∙ sym (in_part t q))

  pub whole_part : (t : ℕ × ℕ → Bool) → ((q : ℕ × ℕ) → set.contains whole q ≡ true → t q ≡ true) → part t ≡ whole
  whole_part t h = same_pairs (part t) whole (λ q. in_part t q ∙ and_same (set.contains whole q) (t q) true (h q) ∙ and_swap (set.contains whole q) true)

  pub no_part : (t : ℕ × ℕ → Bool) → ((q : ℕ × ℕ) → t q ≡ false) → part t ≡ set.empty
  no_part t h = same_pairs (part t) set.empty (λ q. in_part t q ∙ ap (λ b. set.contains whole q && b) (h q) ∙ and-false _ ∙ sym (set.contains-empty pair_cmp q))

  -- a part with one pair more
  part_more : (s t : ℕ × ℕ → Bool) (p : ℕ × ℕ) → set.contains whole p ≡ true → t p ≡ true → ((q : ℕ × ℕ) → (q ≡ p → ⊥) → s q ≡ t q) →
      part t ≡ set.insert (part s) p
  part_more s t p here passes others = same_pairs (part t) (set.insert (part s) p) (λ q.
      elim (eq_by_cmp pair_cmp q p) as (λ b. eq_by_cmp pair_cmp q p ≡ b → set.contains (part t) q ≡ (b || set.contains (part s) q)) [
        | true ↦ λ e. let same : q ≡ p = tells_apart pair_cmp-IsAntisymmetric q p e in ap (set.contains (part t)) same ∙ in_part t p ∙ rw (here, passes) refl
        | false ↦ λ e. in_part t q ∙ ap (λ b. set.contains whole q && b)
            (sym (others q (λ same. let yes = ap (eq_by_cmp pair_cmp q) (sym same) ∙ itself q in cc))) ∙ sym (in_part s q)
      ] refl ∙ sym (set.contains-insert pair_cmp_total (part s) p q))

-- ---- lines

-- which number of a pair tells its line
pub record Layout : Type 0 where
  pub mk : ℕ → ℕ → ℕ × ℕ
  pub line : ℕ × ℕ → ℕ
  pub place : ℕ × ℕ → ℕ
  pub line_is : (s r : ℕ) → line (mk s r) ≡ s
  pub place_is : (s r : ℕ) → place (mk s r) ≡ r
  pub is : (q : ℕ × ℕ) → q ≡ mk (line q) (place q)

abbrev pub by_first : Layout
by_first = record { mk = λ s r. (s, r); line = λ q. q.0; place = λ q. q.1; line_is = λ s r. refl; place_is = λ s r. refl; is = λ q. refl }

abbrev pub by_second : Layout
by_second = record { mk = λ s r. (r, s); line = λ q. q.1; place = λ q. q.0; line_is = λ s r. refl; place_is = λ s r. refl; is = λ q. refl }

next_lt : (x r : ℕ) → (x ≡ r → ⊥) → nat_lt x r ≡ nat_lt x (suc r)
next_lt x r h = grind arith

module _ (layout : Layout) (whole : Pairs) where
  abbrev pub at : ℕ → ℕ → Bool
  at s r = set.contains whole (layout.mk s r)

  -- the lines whose numbers pass
  abbrev pub lines : (ℕ → Bool) → Pairs
  lines done = part whole (λ q. done (layout.line q))

  -- these lines, and of the line s the places below r
  module _ (done : ℕ → Bool) (s : ℕ) (new : done s ≡ false) where
    abbrev below : ℕ → ℕ × ℕ → Bool
    below r q = done (layout.line q) || (nat_eq (layout.line q) s && nat_lt (layout.place q) r)

    abbrev pub row : ℕ → Pairs
    row r = part whole (below r)

    others : (r : ℕ) (q : ℕ × ℕ) → (q ≡ layout.mk s r → ⊥) → below r q ≡ below (suc r) q
    others r q apart = grind (arith, next_lt)

    not_yet : (r : ℕ) → below r (layout.mk s r) ≡ false
    not_yet r = rw (layout.line_is s r, layout.place_is s r, new, lt_no r r (omega arith)) (and-false _)

    now : (r : ℕ) → below (suc r) (layout.mk s r) ≡ true
    now r = rw (layout.line_is s r, layout.place_is s r, new, eq_same s, lt_yes r (suc r) (omega arith)) refl

    pub row_none : lines done ≡ row 0
    row_none = grind (arith, same_part)

    pub row_more : (r : ℕ) → at s r ≡ true → row (suc r) ≡ set.insert (row r) (layout.mk s r)
    row_more r here = part_more whole (below r) (below (suc r)) (layout.mk s r) here (now r) (others r)

    pub row_skip : (r : ℕ) → at s r ≡ false → row r ≡ row (suc r)
    row_skip r none = same_part whole (below r) (below (suc r)) (λ q h. others r q (λ same. let no = sym h ∙ ap (set.contains whole) same ∙ none in cc))

    row_fresh : (r : ℕ) → set.contains (row r) (layout.mk s r) ≡ false
    row_fresh r = in_part whole (below r) (layout.mk s r) ∙ ap (λ b. at s r && b) (not_yet r) ∙ and-false (at s r)

    module _ (count : ℕ) (within : (q : ℕ × ℕ) → set.contains whole q ≡ true → layout.place q < count) where
      pub row_all : row count ≡ lines (λ m. done m || nat_eq m s)
      row_all = grind (arith, same_part)

      -- the line s is read, its numbers one by one
      pub line_back : {S D F : Type 0} (read : S → D → Result S F) (write : ℕ → D) (put : Pairs → S)
          → ((r : ℕ) (some : Pairs) → r < count → set.contains some (layout.mk s r) ≡ false →
          read (put some) (write r) ≡ Ok (put (set.insert some (layout.mk s r))))
          → each read (put (lines done)) (map write (chosen count (at s))) ≡ Ok (put (lines (λ m. done m || nat_eq m s)))
      line_back read write put again =
          ap (λ some. each read (put some) (map write (chosen count (at s)))) row_none
          ∙ chosen_back read write (λ r. put (row r)) (at s) count
          (λ r lt here. again r (row r) lt (row_fresh r) ∙ ap (λ some. Ok (put some)) (sym (row_more r here))) (λ r lt none. ap put (row_skip r none)) count
          (omega arith)
          ∙ ap (λ some. Ok (put some)) row_all

-- the lines below the next number
pub next_line : (whole : Pairs) (u : ℕ) → lines by_first whole (λ m. nat_lt m u || nat_eq m u) ≡ lines by_first whole (λ m. nat_lt m (suc u))
next_line whole u = grind (arith, same_part)
