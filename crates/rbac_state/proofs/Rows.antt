-- The pairs of rows, and how they change with a row.
use Rattle.std.proofs.Common.{◌≡◌, ℕ, ◌<◌, ◌≤◌, ◌%◌, Bool, true, false, not, ◌&&◌, ◌||◌, nat_eq, nat_lt, List, [], length, cond}
use Rattle.std.proofs.Common.{slice_set, replicate, sym, ap, ◌∙◌, arith, get_or-set_same, get_or-set_other}
use Rattle.std.specs.FinSet as sets
use Rattle.std.proofs.lemmas.Bool.{cases_eq, cases_lt, eq-eqb, ne_eqb, eqb-true, lt-ltb}
use Rattle.std.proofs.lemmas.List.{get_or-replicate, get_or_past, length-replicate}
use Rattle.std.proofs.lemmas.Nat.Bits.{bit_at-zero}
use Rattle.basics.specs.Tables.{contains_set_of, set_of_none, set_of_insert, set_of_remove}
use Rattle.wf_names.specs.declared.limits.TheConstants.{USER_LIMIT, ROLE_LIMIT}
use Rattle.wf_names.specs.UserSets.{has_user}
use Rattle.rbac_state.specs.Rows.{role_row_has, memberships_of, AreWithinLimits}

no_user_in_none : (u : ℕ) → has_user [] u ≡ false
no_user_in_none u = ap (λ b. nat_eq b 1) (bit_at-zero (u % 64))

-- rows of one set without users have none
pub none_in_copies : (n : ℕ) (w : List ℕ) → ((v : ℕ) → has_user w v ≡ false) → (u r : ℕ) → role_row_has (replicate n w) u r ≡ false
none_in_copies n w none u r = grind (arith, cases_lt, get_or-replicate, get_or_past, length-replicate, no_user_in_none)

pub none_within_limits : (rows : List (List ℕ)) → ((u r : ℕ) → role_row_has rows u r ≡ false) → AreWithinLimits rows
none_within_limits rows none = record { each = λ u r here. absurd (let no = none u r in cc) }

pub memberships_of-none : (rows : List (List ℕ)) → ((u r : ℕ) → role_row_has rows u r ≡ false) → memberships_of rows ≡ sets.empty
unfolding memberships_of
memberships_of-none rows none = set_of_none (role_row_has rows) USER_LIMIT ROLE_LIMIT none

-- with another row for one role, the rows have what they had elsewhere
with_row : (rows : List (List ℕ)) (r : ℕ) (w : List ℕ) → r < length rows → (x y : ℕ)
    → role_row_has (slice_set rows r w) x y ≡ cond (nat_eq y r) (has_user w x) (role_row_has rows x y)
with_row rows r w within x y = grind (arith, cases_eq, get_or-set_same, eq-eqb, get_or-set_other, ne_eqb)

one_more : (a b h old : Bool) → (b ≡ true → h ≡ old) → cond b (a || h) old ≡ ((a && b) || old)
one_more a b h old same = grind arith

one_less : (a b h old : Bool) → (b ≡ true → h ≡ old) → cond b (not a && h) old ≡ (not (a && b) && old)
one_less a b h old same = grind arith

at_itself : (rows : List (List ℕ)) (r x y : ℕ) → nat_eq y r ≡ true → role_row_has rows x r ≡ role_row_has rows x y
at_itself rows r x y e = ap (λ i. role_row_has rows x i) (sym (eqb-true y r e))

-- where one row gets one user more, the pairs get one pair more
pub memberships_of-insert : (rows : List (List ℕ)) (u r : ℕ) (w : List ℕ) → r < length rows → u < USER_LIMIT → r < ROLE_LIMIT
    → ((v : ℕ) → has_user w v ≡ (nat_eq v u || role_row_has rows v r)) → memberships_of (slice_set rows r w) ≡ sets.insert (memberships_of rows) (u, r)
unfolding memberships_of
memberships_of-insert rows u r w within user role more =
    set_of_insert (role_row_has rows) (role_row_has (slice_set rows r w)) USER_LIMIT ROLE_LIMIT u r user role
    (λ x y. with_row rows r w within x y ∙ ap (λ h. cond (nat_eq y r) h (role_row_has rows x y)) (more x) ∙
    one_more (nat_eq x u) (nat_eq y r) (role_row_has rows x r) (role_row_has rows x y) (at_itself rows r x y))

-- and where one row has one user less, the pairs have one pair less
pub memberships_of-remove : (rows : List (List ℕ)) (u r : ℕ) (w : List ℕ) → r < length rows
    → ((v : ℕ) → has_user w v ≡ (not (nat_eq v u) && role_row_has rows v r)) → memberships_of (slice_set rows r w) ≡ sets.remove (memberships_of rows) (u, r)
unfolding memberships_of
memberships_of-remove rows u r w within less =
    set_of_remove (role_row_has rows) (role_row_has (slice_set rows r w)) USER_LIMIT ROLE_LIMIT u r
    (λ x y. with_row rows r w within x y ∙ ap (λ h. cond (nat_eq y r) h (role_row_has rows x y)) (less x) ∙
    one_less (nat_eq x u) (nat_eq y r) (role_row_has rows x r) (role_row_has rows x y) (at_itself rows r x y))

both_hold : (p q h : Bool) → (h ≡ true → (p ≡ true) × (q ≡ true)) → (p && (q && h)) ≡ h
both_hold p q h hold = grind arith

-- the pairs have one where its row does
pub memberships_of-has : (rows : List (List ℕ)) (u r : ℕ) → AreWithinLimits rows → sets.contains (memberships_of rows) (u, r) ≡ role_row_has rows u r
unfolding memberships_of
memberships_of-has rows u r within =
    contains_set_of (role_row_has rows) USER_LIMIT ROLE_LIMIT u r
    ∙ both_hold (nat_lt u USER_LIMIT) (nat_lt r ROLE_LIMIT) (role_row_has rows u r)
    (λ h. let both = within.each u r h in (lt-ltb u USER_LIMIT both.0, lt-ltb r ROLE_LIMIT both.1))

-- and none where there is no row
pub memberships_of-past : (rows : List (List ℕ)) (u r : ℕ) → AreWithinLimits rows → length rows ≤ r → sets.contains (memberships_of rows) (u, r) ≡ false
memberships_of-past rows u r within past = grind (arith, memberships_of-has, get_or_past, no_user_in_none)
