-- Pairs that are listed row by row.
use Rattle.std.proofs.Common.{◌≡◌, ℕ, suc, ◌+◌, ◌<◌, ◌≤◌, ◌&&◌, nat_lt, Bool, true, false, List, [], ◌∷◌, ◌++◌, refl, sym, ap, ◌∙◌, inr, arith}
use Rattle.std.specs.List.{All, AllByRecursion}
use Rattle.std.specs.declared.cmp.Ordering.{Ordering}
use Rattle.std.specs.declared.cmp.Ordering.TheVariants.{Less}
use Rattle.std.specs.List.Sorted.{IsStrictlySortedBy}
use Rattle.std.specs.FinSet as set
use Rattle.std.proofs.lemmas.List.Elements.{All-nil, All-head, All-tail, All-push, All-weaker}
use Rattle.std.proofs.lemmas.Bool.{lt-ltb, ltb-true}
use Rattle.basics.specs.Laws.Pairs.{pair_cmp}
use Rattle.basics.specs.PairLaws.{pair_cmp_total, pair_cmp-IsAntisymmetric, ascending_none}
use Rattle.basics.specs.Tables.{set_of, with_row, set_of_first, set_of_next, with_row_first, with_row_passed, with_row_skipped}
use Rattle.wf_names.specs.UserSets.{has_user, IsNextIn}
use Rattle.wf_names.specs.declared.limits.TheConstants.{USER_LIMIT}
use Rattle.user_relations.specs.declared.blocks.Block.{Block}
use Rattle.user_relations.specs.Rows.{row_bit, pairs_in, IsBefore, AreListedTo}

pushed_last : {X : Type 0} (P : X → Type 0) (xs : List X) (x : X) → AllByRecursion P xs → P x → AllByRecursion P (xs ++ x ∷ [])
pushed_last P [] x all here = (here, tt)
pushed_last P (y ∷ ys) x all here = (all.0, pushed_last P ys x all.1 here)

sorted_push : {K : Type 0} (R : K → K → Ordering) (xs : List K) (x : K) → IsStrictlySortedBy R xs → All (λ y. R y x ≡ Less) xs →
    IsStrictlySortedBy R (xs ++ x ∷ [])
unfolding IsStrictlySortedBy
sorted_push R [] x s below = (tt, tt)
sorted_push R (y ∷ ys) x s below =
    (pushed_last (λ z. R y z ≡ Less) ys x s.0 (All-head (λ z. R z x ≡ Less) y ys below), sorted_push R ys x s.1 (All-tail (λ z. R z x ≡ Less) y ys below))

less_pair : (a b : ℕ) (q : ℕ × ℕ) → IsBefore a b q → pair_cmp q (a, b) ≡ Less
less_pair a b q h3 = grind arith

before_later : (a b c : ℕ) → b ≤ c → (q : ℕ × ℕ) → IsBefore a b q → IsBefore a c q
before_later a b c more q h5 = grind arith

before_next : (a b : ℕ) → (q : ℕ × ℕ) → IsBefore a b q → IsBefore (a + 1) 0 q
before_next a b q h3 = grind arith

-- no pair is before the first
pub listed_none : (blocks : List Block) → AreListedTo blocks 0 0 []
listed_none blocks = record {
  is = sym (with_row_first (row_bit blocks 0) 0 (set_of (row_bit blocks) 0 USER_LIMIT) ∙ set_of_first (row_bit blocks) USER_LIMIT);
  ascending = ascending_none;
  before = All-nil (IsBefore 0 0);
}

-- the next pair of a row
pub listed_more : (blocks : List Block) (a b c : ℕ) (pairs : List (ℕ × ℕ)) → AreListedTo blocks a b pairs → b ≤ c → row_bit blocks a c ≡ true
    → ((y : ℕ) → b ≤ y → y < c → row_bit blocks a y ≡ false) → AreListedTo blocks a (c + 1) (pairs ++ (a, c) ∷ [])
listed_more blocks a b c pairs listed more here none =
    let rows = set_of (row_bit blocks) a USER_LIMIT in
    let earlier = All-weaker (IsBefore a b) (IsBefore a c) (before_later a b c more) pairs listed.before in
    let next : suc c ≡ c + 1 = omega arith in
    record {
      is =
          set.from_list_push pair_cmp_total pair_cmp-IsAntisymmetric pairs (a, c)
          ∙ ap (λ s. set.insert s (a, c)) (listed.is ∙ sym (with_row_skipped (row_bit blocks a) a b c rows more none))
          ∙ sym (with_row_passed (row_bit blocks a) a c rows here)
          ∙ ap (λ n. with_row (row_bit blocks a) a n rows) next;
      ascending = sorted_push pair_cmp pairs (a, c) listed.ascending (All-weaker (IsBefore a c) (λ q. pair_cmp q (a, c) ≡ Less) (less_pair a c) pairs earlier);
      before = All-push (IsBefore a (c + 1)) pairs (a, c)
          (All-weaker (IsBefore a c) (IsBefore a (c + 1)) (before_later a c (c + 1) (omega arith)) pairs earlier) (inr (refl, omega arith));
    }

-- the end of a row
pub listed_row : (blocks : List Block) (a b : ℕ) (pairs : List (ℕ × ℕ)) → AreListedTo blocks a b pairs → b ≤ USER_LIMIT
    → ((y : ℕ) → b ≤ y → y < USER_LIMIT → row_bit blocks a y ≡ false) → AreListedTo blocks (a + 1) 0 pairs
listed_row blocks a b pairs listed low none =
    let rows = set_of (row_bit blocks) a USER_LIMIT in
    let next : suc a ≡ a + 1 = omega arith in
    record {
      is =
          listed.is
          ∙ sym (with_row_skipped (row_bit blocks a) a b USER_LIMIT rows low none)
          ∙ sym (set_of_next (row_bit blocks) a USER_LIMIT)
          ∙ ap (λ n. set_of (row_bit blocks) n USER_LIMIT) next
          ∙ sym (with_row_first (row_bit blocks (a + 1)) (a + 1) (set_of (row_bit blocks) (a + 1) USER_LIMIT));
      ascending = listed.ascending;
      before = All-weaker (IsBefore a b) (IsBefore (a + 1) 0) (before_next a b) pairs listed.before;
    }

-- all rows
pub listed_all : (blocks : List Block) (pairs : List (ℕ × ℕ)) → AreListedTo blocks USER_LIMIT 0 pairs → set.from_list pairs ≡ pairs_in blocks
listed_all blocks pairs listed = listed.is ∙ with_row_first (row_bit blocks USER_LIMIT) USER_LIMIT (set_of (row_bit blocks) USER_LIMIT USER_LIMIT)

both : (x b l : Bool) → x ≡ (b && l) → x ≡ true → (b ≡ true) × (l ≡ true)
both x b l is e = grind arith

not_first : (x b l : Bool) → x ≡ (b && l) → l ≡ true → x ≡ false → b ≡ false
not_first x b l is inside e = grind arith

-- what the next user of a row adds
module _ (blocks : List Block) (words : List ℕ) (a b : ℕ) (pairs : List (ℕ × ℕ)) (listed : AreListedTo blocks a b pairs)
    (row : (v : ℕ) → has_user words v ≡ (row_bit blocks a v && nat_lt v USER_LIMIT)) where
  unset : (y : ℕ) → y < USER_LIMIT → has_user words y ≡ false → row_bit blocks a y ≡ false
  unset y inside out = not_first (has_user words y) (row_bit blocks a y) (nat_lt y USER_LIMIT) (row y) (lt-ltb y USER_LIMIT inside) out

  pub found_within : (c : ℕ) → IsNextIn words b c → c < USER_LIMIT
  found_within c found = ltb-true c USER_LIMIT (both (has_user words c) (row_bit blocks a c) (nat_lt c USER_LIMIT) (row c) found.member).1

  pub listed_found : (c : ℕ) → IsNextIn words b c → AreListedTo blocks a (c + 1) (pairs ++ (a, c) ∷ [])
  listed_found c found =
      let inside = found_within c found in
      listed_more blocks a b c pairs listed found.from_on (both (has_user words c) (row_bit blocks a c) (nat_lt c USER_LIMIT) (row c) found.member).0
      (λ y low high. unset y (omega (arith, high, inside)) (found.least y low high))

  pub listed_end : b ≤ USER_LIMIT → ((y : ℕ) → b ≤ y → has_user words y ≡ false) → AreListedTo blocks (a + 1) 0 pairs
  listed_end low none = listed_row blocks a b pairs listed low (λ y from inside. unset y inside (none y from))
