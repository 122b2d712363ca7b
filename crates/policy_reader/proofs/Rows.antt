-- The pairs of a set, row by row: they ascend, and are those of the set.
use Rattle.std.proofs.Common.{◌≡◌, ℕ, zero, suc, ◌<◌, Bool, true, false, ◌||◌, ◌&&◌, cond, List, [], ◌∷◌, ◌++◌, map, Less, Equal, refl, sym, ap, subst, ◌∙◌}
use Rattle.std.proofs.Common.{append_assoc, arith, length, nat_lt, if◌then◌else◌, Some, None, T, Ok}
use Rattle.std.specs.FinSet as set
use Rattle.policy_reader.proofs.Grown.{push_all}
use Rattle.policy_reader.proofs.Sets as part
use Rattle.policy_reader.proofs.Prints.{eq_by_cmp, nat_cmp, ordering_then, nat_cmp_is, eq_by_cmp_equiv, list_any, AllByRecursion, IsDistinct, find, is_sorted}
use Rattle.policy_reader.proofs.Prints.{append-nil, Pairs, pair_cmp, IsAscending, AllPairs, pair_cmp_total, pair_cmp-IsAntisymmetric, ascending_none, row, rows}
use Rattle.policy_reader.proofs.Prints.{pair_data, IsDistinct-from_sorted, AreNames, each, PolicyPart, lt_yes, lt_no, All, or_right}
use Rattle.std.specs.List.Sorted.{IsStrictlySortedBy}
use Rattle.std.specs.FinMap.Entries.{below_all, same_entries}
use Rattle.std.proofs.lemmas.Map.Keys.{sorted_head, sorted_tail}
use Rattle.std.proofs.lemmas.List.Elements.{All-from_recursion}
use Rattle.policy_reader.specs.Parts.{once, named_pair_in, numbers_in, next_pair}
use Rattle.policy_reader.proofs.Readings.{list_back, middle, new_middle, number_back}
use Rattle.policy_reader.proofs.Sets.{itself, by_first, lines}

-- ---- the set of a list

module _ (n : ℕ) where
  below_each : (ps : List (ℕ × ℕ)) → AllPairs (λ a b. (a < n) × (b < n)) (set.from_list ps) → AllByRecursion (λ p. (p.0 < n) × (p.1 < n)) ps
  below_each [] h = tt
  below_each (p ∷ ps) h = (
    h.each p.0 p.1 (set.contains-insert pair_cmp_total (set.from_list ps) p p ∙ ap (λ b. b || set.contains {R = pair_cmp} (set.from_list ps) p) (itself p)),
    below_each ps (record {
      each = λ a b here. h.each a b (set.contains-insert pair_cmp_total (set.from_list ps) p (a, b) ∙ or_right (eq_by_cmp pair_cmp (a, b) p) _ here);
    }),
  )

  -- the pairs of a list whose set is below n
  pub all_below : (ps : List (ℕ × ℕ)) → AllPairs (λ a b. (a < n) × (b < n)) (set.from_list ps) → All (λ p. (p.0 < n) × (p.1 < n)) ps
  all_below ps h = All-from_recursion (λ (p : ℕ × ℕ). (p.0 < n) × (p.1 < n)) ps (below_each ps h)

none_among : (x : ℕ × ℕ) (ys : List (ℕ × ℕ)) → AllByRecursion (λ y. pair_cmp x y ≡ Less) ys → list_any (eq_by_cmp pair_cmp x) ys ≡ false
none_among x [] all = refl
none_among x (y ∷ ys) all = rw (all.0) (none_among x ys all.1)

-- an ascending list has as many pairs as its set
len_ascending : (ps : List (ℕ × ℕ)) → IsAscending ps → set.len (set.from_list {R = pair_cmp} ps) ≡ length ps
len_ascending [] s = set.len-empty pair_cmp
len_ascending (p ∷ ps) s =
    let free : set.contains (set.from_list {R = pair_cmp} ps) p ≡ false =
    set.contains-from_list pair_cmp_total ps p ∙ none_among p ps (sorted_head pair_cmp p ps s)
    in
    let rest : set.len (set.from_list {R = pair_cmp} ps) ≡ length ps = len_ascending ps (sorted_tail pair_cmp p ps s) in
    set.len-insert pair_cmp_total (set.from_list ps) p ∙ rw free (omega arith)

-- ---- one pair more

pair_below : (x y : ℕ × ℕ) → x.0 < y.0 → pair_cmp x y ≡ Less
pair_below x y lt = ap (λ o. ordering_then o (nat_cmp x.1 y.1)) (sym (nat_cmp_is x.0 y.0 Less lt))

pair_next : (s t : ℕ) → pair_cmp (s, t) (s, suc t) ≡ Less
pair_next s t = ap (λ o. ordering_then o (nat_cmp t (suc t))) (sym (nat_cmp_is s s Equal refl)) ∙ sym (nat_cmp_is t (suc t) Less (omega arith))

push_ascend : (ps : List (ℕ × ℕ)) (q : ℕ × ℕ) → IsAscending ps → AllByRecursion (λ p. pair_cmp p q ≡ Less) ps → IsAscending (ps ++ q ∷ [])
unfolding IsStrictlySortedBy
push_ascend [] q a h = (tt, tt)
push_ascend (p ∷ ps) q a h = (push_all (λ r. pair_cmp p r ≡ Less) ps q a.0 h.0, push_ascend ps q a.1 h.1)

further : (q r : ℕ × ℕ) (ps : List (ℕ × ℕ)) → pair_cmp q r ≡ Less → AllByRecursion (λ p. pair_cmp p q ≡ Less) ps → AllByRecursion (λ p. pair_cmp p r ≡ Less) ps
further q r [] lt h = tt
further q r (p ∷ ps) lt h = (pair_cmp_total.trans p q r h.0 lt, further q r ps lt h.1)

-- what a set has before (s, t)
abbrev row_of : ℕ → ℕ → Pairs → Pairs
row_of s t pairs = part.row by_first pairs (λ m. nat_lt m s) s (lt_no s s (omega arith)) t

row_begins : (s : ℕ) (pairs : Pairs) → lines by_first pairs (λ m. nat_lt m s) ≡ row_of s 0 pairs
row_begins s pairs = part.row_none by_first pairs (λ m. nat_lt m s) s (lt_no s s (omega arith))

-- the pairs of a set before (s, t), ascending
record IsReached (pairs : Pairs) (s t : ℕ) (ps : List (ℕ × ℕ)) : Type 0 where
  whole : set.from_list ps ≡ row_of s t pairs
  ascend : IsAscending ps
  below : AllByRecursion (λ p. pair_cmp p (s, t) ≡ Less) ps

reached_row : (pairs : Pairs) (s : ℕ) (before : List (ℕ × ℕ)) → IsReached pairs s 0 before → (t : ℕ) → IsReached pairs s t (before ++ row s t pairs)
reached_row pairs s before h zero = subst (IsReached pairs s 0) (sym (append-nil before)) h
reached_row pairs s before h (suc t) =
    let so_far = reached_row pairs s before h t in
    let ps : List (ℕ × ℕ) = before ++ row s t pairs in
    elim (set.contains pairs (s, t)) as
    (λ b. set.contains pairs (s, t) ≡ b → IsReached pairs s (suc t) (before ++ (if b then row s t pairs ++ (s, t) ∷ [] else row s t pairs))) [
      | true ↦ λ here. subst (IsReached pairs s (suc t)) (append_assoc before (row s t pairs) ((s, t) ∷ [])) (record {
        whole = set.from_list_push pair_cmp_total pair_cmp-IsAntisymmetric ps (s, t) ∙ ap (λ some. set.insert some (s, t)) so_far.whole ∙
            sym (part.row_more by_first pairs (λ m. nat_lt m s) s (lt_no s s (omega arith)) t here);
        ascend = push_ascend ps (s, t) so_far.ascend so_far.below;
        below = push_all (λ p. pair_cmp p (s, suc t) ≡ Less) ps (s, t) (further (s, t) (s, suc t) ps (pair_next s t) so_far.below) (pair_next s t);
      })
      | false ↦ λ none. record {
        whole = so_far.whole ∙ part.row_skip by_first pairs (λ m. nat_lt m s) s (lt_no s s (omega arith)) t none;
        ascend =
            so_far.ascend;
        below = further (s, t) (s, suc t) ps (pair_next s t) so_far.below;
      }
    ] refl

module _ (n : ℕ) (pairs : Pairs) (within : AllPairs (λ a b. (a < n) × (b < n)) pairs) where
  reached : (m : ℕ) → IsReached pairs m 0 (rows m n pairs)
  reached zero = record {
    whole = sym (part.no_part pairs (λ q. nat_lt q.0 0) (λ q. lt_no q.0 0 (omega arith))) ∙ row_begins 0 pairs;
    ascend =
        ascending_none;
    below = tt;
  }
  reached (suc m) =
      let row = reached_row pairs m (rows m n pairs) (reached m) n in
      record {
        whole = row.whole ∙ part.row_all by_first pairs (λ k. nat_lt k m) m (lt_no m m (omega arith)) n (λ q here. (within.each q.0 q.1 here).1) ∙
            part.next_line pairs m ∙ row_begins (suc m) pairs;
        ascend = row.ascend;
        below = further (m, n) (suc m, 0) _ (pair_below (m, n) (suc m, 0) (omega arith)) row.below;
      }

  -- the pairs ascend, and are the whole
  pub rows_ascend : IsAscending (rows n n pairs)
  rows_ascend = (reached n).ascend

  pub rows_whole : set.from_list (rows n n pairs) ≡ pairs
  rows_whole = (reached n).whole ∙ sym (row_begins n pairs) ∙ part.whole_part pairs (λ q. nat_lt q.0 n) (λ q here. lt_yes q.0 n (within.each q.0 q.1 here).0)

-- ---- lists that ascend and have the same pairs are the same

abbrev paired : List (ℕ × ℕ) → List ((ℕ × ℕ) × Unit {0})
paired ps = map (λ p. (p, tt)) ps

both : (a b : Bool) → T a → T b → T (a && b)
both a b h k = grind arith

less_paired : (p : ℕ × ℕ) (qs : List (ℕ × ℕ)) → AllByRecursion (λ q. pair_cmp p q ≡ Less) qs → T (below_all pair_cmp p (paired qs))
less_paired p [] h = tt
less_paired p (q ∷ qs) h = rw h.0 (less_paired p qs h.1)

sorted_paired : (ps : List (ℕ × ℕ)) → IsAscending ps → T (is_sorted pair_cmp (paired ps))
unfolding IsStrictlySortedBy
sorted_paired [] h = tt
sorted_paired (p ∷ ps) h = both _ _ (less_paired p ps h.0) (sorted_paired ps h.1)

find_paired : (q : ℕ × ℕ) (ps : List (ℕ × ℕ)) → find pair_cmp q (paired ps) ≡ cond (list_any (eq_by_cmp pair_cmp q) ps) (Some tt) None
find_paired q [] = refl
find_paired q (p ∷ ps) = grind (arith, (find_paired q ps))

unpaired : (ps : List (ℕ × ℕ)) → map (λ e. e.0) (paired ps) ≡ ps
unpaired [] = refl
unpaired (p ∷ ps) = ap (λ qs. p ∷ qs) (unpaired ps)

-- an ascending list of the pairs of a set is the one row by row
pub listed_rows : (n : ℕ) (pairs : Pairs) (ps : List (ℕ × ℕ)) → IsAscending ps → set.from_list ps ≡ pairs → AllPairs (λ a b. (a < n) × (b < n)) pairs →
    ps ≡ rows n n pairs
listed_rows n pairs ps ascend all within =
    let same : paired ps ≡ paired (rows n n pairs) = same_entries pair_cmp pair_cmp_total pair_cmp-IsAntisymmetric (paired ps) (paired (rows n n pairs))
    (sorted_paired ps ascend) (sorted_paired (rows n n pairs) (rows_ascend n pairs within))
    (λ q. find_paired q ps ∙ ap (λ b. cond b (Some tt) None) (sym (set.contains-from_list pair_cmp_total ps q) ∙ ap (λ (s : Pairs). set.contains s q)
    (all ∙ sym (rows_whole n pairs within)) ∙ set.contains-from_list pair_cmp_total (rows n n pairs) q) ∙ sym (find_paired q (rows n n pairs))) in
    sym (unpaired ps) ∙ ap (map (λ e. e.0)) same ∙ unpaired (rows n n pairs)

-- ---- pairs are read from what they are written as

module _ (t : PolicyPart) (f : ℕ) (names : List (List ℕ)) (whole : Pairs) (named : AreNames names)
    (within : AllPairs (λ a b. (a < length names) × (b < length names)) whole) where
  abbrev all : List (ℕ × ℕ)
  all = rows (length names) (length names) whole

  pair_again : (some : Pairs) (p : ℕ × ℕ) → set.contains whole p ≡ true → set.contains some p ≡ false →
      next_pair t f names some (pair_data names p) ≡ Ok (set.insert some p)
  unfolding next_pair named_pair_in numbers_in once
  pair_again some p here fresh = grind (arith, number_back)

  step : (before : List (ℕ × ℕ)) (p : ℕ × ℕ) (after : List (ℕ × ℕ)) → all ≡ before ++ p ∷ after →
      next_pair t f names (set.from_list before) (pair_data names p) ≡ Ok (set.from_list (before ++ p ∷ []))
  step before p after e =
      let here = ap (λ (s : Pairs). set.contains s p) (sym (rows_whole (length names) whole within)) ∙ set.contains-from_list pair_cmp_total all p ∙
      ap (list_any (eq_by_cmp pair_cmp p)) e ∙ middle (eq_by_cmp pair_cmp) before p after (itself p) in
      let distinct = subst (IsDistinct (eq_by_cmp pair_cmp)) e (IsDistinct-from_sorted pair_cmp all (rows_ascend (length names) whole within)) in
      pair_again (set.from_list before) p here (set.contains-from_list pair_cmp_total before p ∙
      new_middle (eq_by_cmp pair_cmp) (λ p q. (eq_by_cmp_equiv pair_cmp_total).symm p q) before p after distinct)
      ∙ ap Ok (sym (set.from_list_push pair_cmp_total pair_cmp-IsAntisymmetric before p))

  -- pairs are read from what they are written as
  pub pairs_back : each (next_pair t f names) set.empty (map (pair_data names) all) ≡ Ok whole
  pairs_back = list_back (next_pair t f names) (pair_data names) (λ ps. set.from_list ps) all step ∙ ap Ok (rows_whole (length names) whole within)

  pub pairs_count : length all ≡ set.len whole
  pairs_count = sym (len_ascending all (rows_ascend (length names) whole within)) ∙
      ap set.len (rows_whole (length names) whole within)
