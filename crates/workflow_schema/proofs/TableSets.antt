-- A table as the set of its pairs, (row, bit) or (bit, row).
use Rattle.std.proofs.Common.{◌≡◌, ℕ, not, ◌&&◌, ◌||◌, nat_eq, nat_lt, List, length, get_or, sym, ap, ◌∙◌, replicate, arith, rules}
use Rattle.std.specs.FinSet as set
use Rattle.basics.specs.Laws.Pairs.{Pairs, pair_cmp}
use Rattle.basics.specs.PairLaws.{pair_cmp_total, pair_cmp-IsAntisymmetric}
use Rattle.basics.specs.Tables.{contains_set_of}
use Rattle.workflow_schema.specs.declared.table.TheConstants.{WORD_BITS}
use Rattle.workflow_schema.specs.Tables.{table_has, pairs_in, permitted_by}
use Rattle.basics.proofs.Booleans.{and_swap, lt_back_no}
use Rattle.workflow_schema.proofs.Words.{is_set-cut}
use Rattle.workflow_schema.proofs.Rows.{table_past}
use Rattle.workflow_schema.proofs.PairLists.{eq_pair, contains-one_more, no_flags}

-- only rows that are there have flags
row_cut : (rows : List ℕ) (s t : ℕ) → (nat_lt s (length rows) && table_has rows s t) ≡ table_has rows s t
row_cut rows s t = grind (arith, table_past, lt_back_no)

pub pairs_in-has : (rows : List ℕ) (s t : ℕ) → set.contains (pairs_in rows) (s, t) ≡ table_has rows s t
unfolding pairs_in
pairs_in-has rows s t =
    contains_set_of (table_has rows) (length rows) WORD_BITS s t
    ∙ ap (λ b. nat_lt s (length rows) && b) (is_set-cut (get_or rows s 0) t)
    ∙ row_cut rows s t

pub permitted_by-has : (rows : List ℕ) (r s : ℕ) → set.contains (permitted_by rows) (r, s) ≡ table_has rows s r
unfolding permitted_by
permitted_by-has rows r s =
    contains_set_of (λ bit row. table_has rows row bit) WORD_BITS (length rows) r s
    ∙ ap (λ b. nat_lt r WORD_BITS && b) (row_cut rows s r)
    ∙ is_set-cut (get_or rows s 0) r

same_pairs : (x y : Pairs) → ((r s : ℕ) → set.contains x (r, s) ≡ set.contains y (r, s)) → x ≡ y
same_pairs x y h = set.same_set pair_cmp_total pair_cmp-IsAntisymmetric x y (λ q. h q.0 q.1)

-- tables with the pairs of a set are seen as that set
pub pairs_in-is : (rows : List ℕ) (pairs : Pairs) → ((s t : ℕ) → table_has rows s t ≡ set.contains pairs (s, t)) → pairs_in rows ≡ pairs
pairs_in-is rows pairs h = same_pairs (pairs_in rows) pairs (λ s t. pairs_in-has rows s t ∙ h s t)

pub pairs_in-none : (n : ℕ) → pairs_in (replicate n 0) ≡ set.empty
pairs_in-none n = pairs_in-is (replicate n 0) set.empty (λ s t. no_flags n s t ∙ sym (set.contains-empty pair_cmp (s, t)))

pub pairs_in-with : (old rows : List ℕ) (s t : ℕ) → ((a b : ℕ) → table_has rows a b ≡ ((nat_eq a s && nat_eq b t) || table_has old a b)) →
    pairs_in rows ≡ set.insert (pairs_in old) (s, t)
pairs_in-with old rows s t h = search (rules, arith, pairs_in-is, pairs_in-has, contains-one_more)

pub permitted_by-is : (rows : List ℕ) (pairs : Pairs) → ((s r : ℕ) → table_has rows s r ≡ set.contains pairs (r, s)) → permitted_by rows ≡ pairs
permitted_by-is rows pairs h = same_pairs (permitted_by rows) pairs (λ r s. permitted_by-has rows r s ∙ h s r)

pub permitted_by-none : (n : ℕ) → permitted_by (replicate n 0) ≡ set.empty
permitted_by-none n = permitted_by-is (replicate n 0) set.empty (λ s r. no_flags n s r ∙ sym (set.contains-empty pair_cmp (r, s)))

pub permitted_by-with : (old rows : List ℕ) (r s : ℕ) → ((a b : ℕ) → table_has rows a b ≡ ((nat_eq a s && nat_eq b r) || table_has old a b)) →
    permitted_by rows ≡ set.insert (permitted_by old) (r, s)
permitted_by-with old rows r s h = search (rules, arith, permitted_by-is, and_swap, permitted_by-has, contains-one_more)

pub permitted_by-without : (old rows : List ℕ) (r s : ℕ) → ((a b : ℕ) → table_has rows a b ≡ (not (nat_eq a s && nat_eq b r) && table_has old a b)) →
    permitted_by rows ≡ set.remove (permitted_by old) (r, s)
permitted_by-without old rows r s h =
    permitted_by-is rows _ (λ a b.
    h a b
    ∙ (λ i. not (and_swap (nat_eq a s) (nat_eq b r) i) && sym (permitted_by-has old b a) i)
    ∙ sym (set.contains-remove pair_cmp_total (permitted_by old) (r, s) (b, a) ∙ ap (λ x. not x && set.contains (permitted_by old) (b, a)) (eq_pair b a r s)))
