-- Memberships from which those of a user are taken.
use Rattle.std.proofs.Common.{◌≡◌, refl, sym, ap, ◌∙◌, ℕ, ◌+◌, ◌<◌, ◌≤◌, Bool, true, false, not, ◌&&◌, ◌||◌, ◌==◌, nat_lt, List, []}
use Rattle.std.proofs.Common.{◌∷◌, ◌++◌, length, arith}
use Rattle.std.proofs.lemmas.Bool.Decides.{nat_tests}
use Rattle.std.specs.FinSet as set
use Rattle.basics.specs.Laws.Pairs.{Pairs, AllPairs}
use Rattle.basics.specs.PairLaws.{pair_cmp_total, pair_cmp-IsAntisymmetric}
use Rattle.basics.specs.Tables.{pairs_tied}
use Rattle.basics.proofs.Booleans.{and_same, lt_yes, or-false}
use Rattle.rbac_state.specs.Laws.Rosters.{RosterShape, IsSoundRoster}
use Rattle.policy_book.specs.Laws.Twins.{is_one_of}
use Rattle.resilience_check.specs.Left.{members_without}
use Rattle.resilience_check.specs.Searches.{members_below}
use Rattle.resilience_check.proofs.Ones.{one_append}
use Rattle.resilience_check.proofs.Authority.{contains_kept}

eq_swap : (x u : ℕ) → (x == u) ≡ (u == x)
eq_swap x u = grind (arith, nat_tests)

lt_next : (y r : ℕ) → nat_lt y (r + 1) ≡ (nat_lt y r || (y == r))
lt_next y r = grind (arith, nat_tests)

less_by : (e d l c : Bool) → (not (e && d) && (c && not (e && l))) ≡ (c && not (e && (l || d)))
less_by false d l c = refl
less_by true true true true = refl
less_by true true true false = refl
less_by true true false true = refl
less_by true true false false = refl
less_by true false true c = refl
less_by true false false c = refl

same_members : (s t : Pairs) → ((x y : ℕ) → set.contains s (x, y) ≡ set.contains t (x, y)) → s ≡ t
same_members s t same = set.same_set pair_cmp_total pair_cmp-IsAntisymmetric s t (λ q. same q.0 q.1)

-- the memberships of a user in one role more are taken
pub one_role_less : (r u : ℕ) (members : Pairs) → set.remove (members_below r u members) (u, r) ≡ members_below (r + 1) u members
one_role_less r u members = same_members _ _ (λ x y.
    set.contains-remove pair_cmp_total (members_below r u members) (u, r) (x, y)
    ∙ (λ i. not (pairs_tied x y u r i) && contains_kept (λ q. not ((u == q.0) && nat_lt q.1 r)) members (x, y) i)
    ∙ ap (λ e. not (e && (y == r)) && (set.contains members (x, y) && not ((u == x) && nat_lt y r))) (eq_swap x u)
    ∙ less_by (u == x) (y == r) (nat_lt y r) (set.contains members (x, y))
    ∙ ap (λ l. set.contains members (x, y) && not ((u == x) && l)) (sym (lt_next y r))
    ∙ sym (contains_kept (λ q. not ((u == q.0) && nat_lt q.1 (r + 1))) members (x, y)))

and_yes : (a : Bool) → (a && true) ≡ a
and_yes true = refl
and_yes false = refl

not_below : (u x : ℕ) (y : ℕ) → not ((u == x) && nat_lt y 0) ≡ true
not_below u x y = grind (arith, nat_tests)

pub no_role_yet : (u : ℕ) (members : Pairs) → members_below 0 u members ≡ members
no_role_yet u members = same_members _ _ (λ x y.
    contains_kept (λ q. not ((u == q.0) && nat_lt q.1 0)) members (x, y)
    ∙ ap (λ b. set.contains members (x, y) && b) (not_below u x y) ∙ and_yes _)

-- those in all roles are taken
pub every_role_less : (n roles u : ℕ) (members : Pairs) → AllPairs (λ v r. (v < n) × (r < roles)) members
    → members_below roles u members ≡ set.retain members (λ q. not (u == q.0))
every_role_less n roles u members within = same_members _ _ (λ x y.
    contains_kept (λ q. not ((u == q.0) && nat_lt q.1 roles)) members (x, y)
    ∙ and_same (set.contains members (x, y)) _ _ (λ there. ap (λ l. not ((u == x) && l)) (lt_yes y roles (within.each x y there).1)
    ∙ ap not (and_yes (u == x)))
    ∙ sym (contains_kept (λ q. not (u == q.0)) members (x, y)))

both_not : (c a b : Bool) → ((c && not a) && not b) ≡ (c && not (a || b))
both_not true true b = refl
both_not true false b = refl
both_not false a b = refl

-- one more user is absent
pub one_more_absent : (absent : List ℕ) (u : ℕ) (members : Pairs) → set.retain (members_without absent members)
    (λ q. not (u == q.0)) ≡ members_without (absent ++ u ∷ []) members
one_more_absent absent u members = same_members _ _ (λ x y.
    contains_kept (λ q. not (u == q.0)) (members_without absent members) (x, y)
    ∙ ap (λ c. c && not (u == x)) (contains_kept (λ q. not (is_one_of absent q.0)) members (x, y))
    ∙ both_not (set.contains members (x, y)) (is_one_of absent x) (u == x)
    ∙ ap (λ o. set.contains members (x, y) && not (is_one_of absent x || o)) (sym (or-false (u == x)))
    ∙ ap (λ o. set.contains members (x, y) && not o) (sym (one_append absent (u ∷ []) x))
    ∙ sym (contains_kept (λ q. not (is_one_of (absent ++ u ∷ []) q.0)) members (x, y)))

pub nobody_absent : (members : Pairs) → members_without [] members ≡ members
nobody_absent members = same_members _ _ (λ x y. contains_kept (λ q. true) members (x, y) ∙ and_yes _)

pub all_roles_less : (roster : RosterShape) (r u : ℕ) → IsSoundRoster roster → length roster.roles ≤ r
    → members_below r u roster.members ≡ set.retain roster.members (λ q. not (u == q.0))
all_roles_less roster r u sound all = every_role_less (length roster.users) r u roster.members (record {
  each = λ x y there. let within = sound.members.each x y there in (within.0, omega (arith, within.1, all));
})
