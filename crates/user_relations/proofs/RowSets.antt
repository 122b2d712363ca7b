-- The set of pairs that rows of bits stand for, and how it changes with them.
use Rattle.std.proofs.Common.{◌≡◌, ℕ, ◌+◌, ◌-◌, ◌^◌, ◌<◌, ◌≤◌, ◌==◌, ◌&&◌, ◌||◌, not, cond, nat_lt, Bool, true, false, List, length, refl, sym}
use Rattle.std.proofs.Common.{ap, ◌∙◌, ◌⊎◌, inl, inr, arith}
use Rattle.std.specs.Prelude.{IsTrue}
use Rattle.std.specs.FinSet as set
use Rattle.std.proofs.lemmas.Bool.{cases_lt, lt-ltb, le-ltb, ltb-true, eqb-true, eq-eqb}
use Rattle.std.proofs.lemmas.List.{get_or_past}
use Rattle.basics.proofs.Booleans.{and-false, and_same, and_swap}
use Rattle.basics.specs.Laws.Pairs.{Pairs, pair_cmp}
use Rattle.basics.specs.PairLaws.{pair_cmp_total}
use Rattle.basics.specs.Tables.{contains_set_of, set_of_none, set_of_insert, set_of_remove, len_set_of}
use Rattle.wf_names.specs.declared.limits.TheConstants.{USER_LIMIT}
use Rattle.user_relations.specs.declared.blocks.Block.{Block}
use Rattle.user_relations.specs.declared.blocks.TheConstants.{BLOCKS}
use Rattle.user_relations.specs.Rows.{row_bit, pairs_in, AreRows}
use Rattle.user_relations.proofs.RowBits.{no_row}

-- there is no bit from the limit of users on
bit_past : (blocks : List Block) (u v : ℕ) → length blocks ≡ BLOCKS → USER_LIMIT ≤ u → row_bit blocks u v ≡ false
bit_past blocks u v whole past = grind (arith, get_or_past, no_row)

within_first : (p r c : Bool) → (p ≡ false → c ≡ false) → (r ≡ false → c ≡ false) → c ≡ (p && (r && c))
within_first p r c first second = grind arith

-- a bit that is read tells whether the pair is in the set
pub bit_tells : (blocks : List Block) (u v : ℕ) (b : Bool) → length blocks ≡ BLOCKS → b ≡ row_bit blocks u v → (IsTrue b → v < USER_LIMIT) →
    b ≡ set.contains (pairs_in blocks) (u, v)
bit_tells blocks u v b whole is within =
    let none : (nat_lt v USER_LIMIT) ≡ false → row_bit blocks u v ≡ false =
    λ out. sym is ∙ elim b as (λ c. b ≡ c → c ≡ false) [
      | true ↦ λ e. let low = within e in let less = lt-ltb v USER_LIMIT low in cc
      | false ↦ λ e. refl
    ] refl
    in
    is
    ∙ within_first (nat_lt u USER_LIMIT) (nat_lt v USER_LIMIT) (row_bit blocks u v)
    (λ out. elim (cases_lt u USER_LIMIT) [
      | inl low ↦ let less = lt-ltb u USER_LIMIT low in cc
      | inr past ↦ bit_past blocks u v whole past
    ])
    none
    ∙ sym (contains_set_of (row_bit blocks) USER_LIMIT USER_LIMIT u v)

-- rows without a bit
pub pairs_none : (blocks : List Block) → ((u v : ℕ) → row_bit blocks u v ≡ false) → pairs_in blocks ≡ set.empty
pairs_none blocks none = set_of_none (row_bit blocks) USER_LIMIT USER_LIMIT none

pub rows_none : (blocks : List Block) → length blocks ≡ BLOCKS → ((u v : ℕ) → row_bit blocks u v ≡ false) → AreRows blocks blocks 0
rows_none blocks whole none = record {
  ahead_whole = whole;
  behind_whole = whole;
  turned = λ u v. none v u ∙ sym (none u v);
  counted = sym (ap set.len (pairs_none blocks none) ∙ set.len-empty pair_cmp);
}

module _ (ahead behind new_ahead new_behind : List Block) (count u v : ℕ) (rows : AreRows ahead behind count) (whole : length new_ahead ≡ length ahead)
    (whole_behind : length new_behind ≡ length behind) where
  -- a pair that was not there is put in
  pub rows_put : u < USER_LIMIT → v < USER_LIMIT → set.contains (pairs_in ahead) (u, v) ≡ false
      → ((x y : ℕ) → row_bit new_ahead x y ≡ ((x == u && y == v) || row_bit ahead x y))
      → ((y x : ℕ) → row_bit new_behind y x ≡ ((y == v && x == u) || row_bit behind y x))
      → AreRows new_ahead new_behind (count + 1)
  rows_put first second free forth back = record {
    ahead_whole = whole ∙ rows.ahead_whole;
    behind_whole = whole_behind ∙ rows.behind_whole;
    turned = λ x y. back y x ∙ (λ i. and_swap (y == v) (x == u) i || rows.turned x y i) ∙ sym (forth x y);
    counted =
        ap (λ n. n + 1) rows.counted
        ∙ sym (ap set.len (set_of_insert (row_bit ahead) (row_bit new_ahead) USER_LIMIT USER_LIMIT u v first second forth)
        ∙ set.len-insert pair_cmp_total (pairs_in ahead) (u, v)
        ∙ ap (λ b. cond b (set.len (pairs_in ahead)) (set.len (pairs_in ahead) + 1)) free);
  }

  -- a pair that was there is taken out
  pub rows_taken : set.contains (pairs_in ahead) (u, v) ≡ true
      → ((x y : ℕ) → row_bit new_ahead x y ≡ (not (x == u && y == v) && row_bit ahead x y))
      → ((y x : ℕ) → row_bit new_behind y x ≡ (not (y == v && x == u) && row_bit behind y x))
      → AreRows new_ahead new_behind (count - 1)
  rows_taken here forth back = record {
    ahead_whole = whole ∙ rows.ahead_whole;
    behind_whole = whole_behind ∙ rows.behind_whole;
    turned = λ x y. back y x ∙ (λ i. not (and_swap (y == v) (x == u) i) && rows.turned x y i) ∙ sym (forth x y);
    counted =
        ap (λ n. n - 1) rows.counted
        ∙ sym (ap set.len (set_of_remove (row_bit ahead) (row_bit new_ahead) USER_LIMIT USER_LIMIT u v forth)
        ∙ set.len-remove pair_cmp_total (pairs_in ahead) (u, v)
        ∙ ap (λ b. cond b (set.len (pairs_in ahead) - 1) (set.len (pairs_in ahead))) here);
  }

pub few_pairs : (ahead behind : List Block) (count : ℕ) → AreRows ahead behind count → count < 2 ^ 32
few_pairs ahead behind count rows = let most = len_set_of (row_bit ahead) USER_LIMIT USER_LIMIT in omega (arith, rows.counted, most)

-- a set that has members is not empty
pub some_pair : (s : Pairs) (q : ℕ × ℕ) → set.contains s q ≡ true → 1 ≤ set.len s
some_pair s q here = elim (cases_lt 0 (set.len s)) [
  | inl some ↦ some
  | inr none ↦
      let empty : s ≡ set.empty = set.empty_of_len s (omega (arith, none)) in
      let absent : set.contains s q ≡ false = ap (λ t. set.contains t q) empty ∙ set.contains-empty pair_cmp q in
      cc
]

pub none_counted : (s : Pairs) (b : Bool) → b ≡ (set.len s == 0) → (IsTrue b → s ≡ set.empty) × (s ≡ set.empty → IsTrue b)
none_counted s b is = (
  λ yes. set.empty_of_len s (eqb-true (set.len s) 0 (sym is ∙ yes)),
  λ none. is ∙ eq-eqb (set.len s) 0 (ap set.len none ∙ set.len-empty pair_cmp),
)

inside_both : (p r c : Bool) → p ≡ true → r ≡ true → c ≡ (p && (r && c))
inside_both p r c first second = sym (λ i. first i && (second i && c))

-- what is read of a row below a number of users
module _ (blocks : List Block) (u v users : ℕ) (most : users ≤ USER_LIMIT) where
  is_pair : u < USER_LIMIT → v < USER_LIMIT → row_bit blocks u v ≡ set.contains (pairs_in blocks) (u, v)
  is_pair first second =
      inside_both (nat_lt u USER_LIMIT) (nat_lt v USER_LIMIT) (row_bit blocks u v) (lt-ltb u USER_LIMIT first) (lt-ltb v USER_LIMIT second)
      ∙ sym (contains_set_of (row_bit blocks) USER_LIMIT USER_LIMIT u v)

  no_pair : (USER_LIMIT ≤ u) ⊎ (USER_LIMIT ≤ v) → set.contains (pairs_in blocks) (u, v) ≡ false
  no_pair (inl past) = contains_set_of (row_bit blocks) USER_LIMIT USER_LIMIT u v ∙
      ap (λ b. b && (nat_lt v USER_LIMIT && row_bit blocks u v)) (le-ltb u USER_LIMIT past)
  no_pair (inr past) = contains_set_of (row_bit blocks) USER_LIMIT USER_LIMIT u v ∙
      ap (λ b. nat_lt u USER_LIMIT && (b && row_bit blocks u v)) (le-ltb v USER_LIMIT past) ∙ and-false (nat_lt u USER_LIMIT)

  pub row_told : (USER_LIMIT ≤ u → row_bit blocks u v ≡ false) →
      (nat_lt v users && row_bit blocks u v) ≡ (nat_lt v users && set.contains (pairs_in blocks) (u, v))
  row_told none = and_same (nat_lt v users) (row_bit blocks u v) (set.contains (pairs_in blocks) (u, v)) (λ e. elim (cases_lt u USER_LIMIT) [
    | inl first ↦ is_pair first (omega (arith, most, ltb-true v users e))
    | inr past ↦ none past ∙ sym (no_pair (inl past))
  ])

  pub column_told : (USER_LIMIT ≤ v → row_bit blocks u v ≡ false) →
      (nat_lt u users && row_bit blocks u v) ≡ (nat_lt u users && set.contains (pairs_in blocks) (u, v))
  column_told none = and_same (nat_lt u users) (row_bit blocks u v) (set.contains (pairs_in blocks) (u, v)) (λ e. elim (cases_lt v USER_LIMIT) [
    | inl second ↦ is_pair (omega (arith, most, ltb-true u users e)) second
    | inr past ↦ none past ∙ sym (no_pair (inr past))
  ])

-- who is read of the rows ahead and behind
pub after_told : (ahead behind : List Block) (count u v users : ℕ) → AreRows ahead behind count → users ≤ USER_LIMIT
    → (nat_lt v users && row_bit ahead u v) ≡ (nat_lt v users && set.contains (pairs_in ahead) (u, v))
after_told ahead behind count u v users rows most = row_told ahead u v users most (bit_past ahead u v rows.ahead_whole)

pub ahead_told : (ahead behind : List Block) (count u v users : ℕ) → AreRows ahead behind count → users ≤ USER_LIMIT
    → (nat_lt v users && row_bit behind u v) ≡ (nat_lt v users && set.contains (pairs_in ahead) (v, u))
ahead_told ahead behind count u v users rows most =
    ap (λ b. nat_lt v users && b) (rows.turned v u)
    ∙ column_told ahead v u users most (λ past. sym (rows.turned v u) ∙ bit_past behind u v rows.behind_whole past)

-- a set without pairs
pub none_told : (s : Pairs) (b : Bool) (q : ℕ × ℕ) → s ≡ set.empty → false ≡ (b && set.contains s q)
none_told s b q none = sym (ap (λ c. b && c) (ap (λ t. set.contains t q) none ∙ set.contains-empty pair_cmp q) ∙ and-false b)

both_inside : (p r c : Bool) → (p && (r && c)) ≡ true → (p ≡ true) × (r ≡ true)
both_inside p r c e = grind arith

-- the numbers of a pair are within the limit
pub held_within : (blocks : List Block) (u v : ℕ) → set.contains (pairs_in blocks) (u, v) ≡ true → (u < USER_LIMIT) × (v < USER_LIMIT)
held_within blocks u v held =
    let inside = both_inside (nat_lt u USER_LIMIT) (nat_lt v USER_LIMIT) (row_bit blocks u v)
    (sym (contains_set_of (row_bit blocks) USER_LIMIT USER_LIMIT u v) ∙ held) in
    (ltb-true u USER_LIMIT inside.0, ltb-true v USER_LIMIT inside.1)
