-- What the flags of tables are after a step of the code.
use Rattle.std.proofs.Common.{◌≡◌, ℕ, ◌+◌, ◌<◌, ◌≤◌, Bool, false, not, ◌&&◌, ◌||◌, nat_eq, nat_lt, List, length, get_or, set, refl, arith}
use Rattle.std.proofs.Common.{ap, ◌∙◌, add-one, get_or-set_same, get_or-set_other}
use Rattle.std.proofs.Math.Nat.{le_trans}
use Rattle.std.proofs.lemmas.List.{get_or_past}
use Rattle.std.proofs.lemmas.Bool.{cases_eq}
use Rattle.workflow_schema.specs.Tables.{is_set, table_has, leads}
use Rattle.basics.proofs.Booleans.{or-false, eq_same, eq_other, lt_no, lt_back, lt_back_no}
use Rattle.workflow_schema.proofs.Words.{is_set-zero}

pub table_past : (rows : List ℕ) (a b : ℕ) → length rows ≤ a → table_has rows a b ≡ false
table_past rows a b h = ap (λ w. is_set w b) (get_or_past rows a 0 h) ∙ is_set-zero b

-- a row is replaced by one that differs in one flag
pub flag_set : (rows : List ℕ) (row bit word : ℕ) → row < length rows → ((b : ℕ) → is_set word b ≡ (nat_eq b bit || is_set (get_or rows row 0) b)) →
    (a b : ℕ) → table_has (set rows row word) a b ≡ ((nat_eq a row && nat_eq b bit) || table_has rows a b)
flag_set rows row bit word h is a b = grind (arith, cases_eq, get_or-set_same, eq_same, get_or-set_other, eq_other)

pub flag_cleared : (rows : List ℕ) (row bit word : ℕ) →
    row < length rows → ((b : ℕ) → is_set word b ≡ (not (nat_eq b bit) && is_set (get_or rows row 0) b)) → (a b : ℕ) →
    table_has (set rows row word) a b ≡ (not (nat_eq a row && nat_eq b bit) && table_has rows a b)
flag_cleared rows row bit word h is a b = grind (arith, cases_eq, get_or-set_same, eq_same, get_or-set_other, eq_other)

-- a table in which the rows before a place are joined through row k
abbrev pub joined_before : List ℕ → ℕ → ℕ → ℕ → ℕ → Bool
joined_before old k place a b = table_has old a b || (nat_lt a place && (table_has old a k && table_has old k b))

abbrev pub AreJoined : List ℕ → List ℕ → ℕ → ℕ → Type 0
AreJoined old rows k place = (a b : ℕ) → table_has rows a b ≡ joined_before old k place a b

join_none : (old : List ℕ) (k a b : ℕ) (place : ℕ) → place ≤ a → joined_before old k place a b ≡ table_has old a b
join_none old k a b place h = ap (λ t. table_has old a b || (t && (table_has old a k && table_has old k b))) (lt_no a place h) ∙ or-false _

pub join_end : (old rows : List ℕ) (k place : ℕ) → length rows ≤ place → AreJoined old rows k place → (a b : ℕ) →
    table_has rows a b ≡ (table_has old a b || (table_has old a k && table_has old k b))
join_end old rows k place h joined a b = grind (arith, lt_back_no, join_none, table_past, le_trans)

pub own_none : (rows : List ℕ) (n : ℕ) → length rows ≤ n → ((a : ℕ) → a < n → table_has rows a a ≡ false) → (a : ℕ) → table_has rows a a ≡ false
own_none rows n h below a = grind (arith, lt_back, table_past, le_trans, lt_back_no)

-- ---- closing a table

abbrev pub AreClosed : (ℕ → ℕ → Bool) → List ℕ → ℕ → Type 0
AreClosed next rows k = (a b : ℕ) → table_has rows a b ≡ leads k next a b

pub close_start : (rows : List ℕ) → AreClosed (table_has rows) rows 0
unfolding leads
close_start rows a b = refl

pub close_step :
    (next : ℕ → ℕ → Bool) (old rows : List ℕ) (k : ℕ) → AreClosed next old k →
    ((a b : ℕ) → table_has rows a b ≡ (table_has old a b || (table_has old a k && table_has old k b))) →
    AreClosed next rows (k + 1)
unfolding leads
close_step next old rows k closed is = grind (arith, add-one)
