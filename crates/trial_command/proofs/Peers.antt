-- The pairs of peers among the first n pairs of users.
use Rattle.std.proofs.Common.{◌≡◌, ℕ, zero, suc, ◌+◌, ◌<◌, ◌≤◌, ◌/◌, ◌%◌, Bool, true, false, List, [], ◌∷◌, ◌++◌, map, if◌then◌else◌, cond, length, Some, refl}
use Rattle.std.proofs.Common.{sym, ap, subst, ◌∙◌, add-one, append-nil, arith}
use Rattle.std.specs.List.{filter, range_with_len}
use Rattle.std.specs.FinSet as set
use Rattle.std.proofs.lemmas.List.FromFn.{filter_of_map_range_with_len_more}
use Rattle.wf_names.specs.declared.limits.TheConstants.{PAIR_LIMIT, USER_LIMIT}
use Rattle.basics.specs.Laws.Pairs.{AllPairs, Pairs, pair_cmp}
use Rattle.basics.specs.PairLaws.{all_empty, all_insert, pair_cmp_total, pair_cmp-IsAntisymmetric}
use Rattle.user_relations.specs.Laws.Relations.{kind_of, listed}
use Rattle.policy_book.specs.Laws.Facts.{AreOfUsers}
use Rattle.trial_command.specs.Policy.{are_peers, peers, trial_relations, trial_roster, user_pairs}
use Rattle.trial_command.proofs.NameForms.{apart_form, peer_form, users_count}

abbrev pair_at : ℕ → ℕ × ℕ
pair_at n = (n / 60, n % 60)

abbrev is_peer_pair : ℕ × ℕ → Bool
is_peer_pair p = are_peers p.0 p.1

peer_list : ℕ → List (ℕ × ℕ)
peer_list n = filter is_peer_pair (map pair_at (range_with_len 0 n))

pub peers_among : ℕ → Pairs
peers_among n = set.from_list (peer_list n)

pub peers_none : peers_among 0 ≡ set.empty
unfolding peers_among peer_list
peers_none = refl

with_pair : (xs : List (ℕ × ℕ)) (p : ℕ × ℕ) (b : Bool) →
    set.from_list {R = pair_cmp} (xs ++ cond b (p ∷ []) []) ≡ (if b then set.insert (set.from_list xs) p else set.from_list xs)
with_pair xs p true = set.from_list_push pair_cmp_total pair_cmp-IsAntisymmetric xs p
with_pair xs p false = ap set.from_list (append-nil xs)

pub peers_more : (n : ℕ) → peers_among (n + 1) ≡ (if are_peers (n / 60) (n % 60) then set.insert (peers_among n) (n / 60, n % 60) else peers_among n)
unfolding peers_among peer_list
peers_more n =
    ap set.from_list (filter_of_map_range_with_len_more is_peer_pair pair_at 0 n n (omega arith))
    ∙ with_pair (peer_list n) (pair_at n) (is_peer_pair (pair_at n))

pub peers_all : peers_among 3600 ≡ peers
unfolding peers_among peer_list peers user_pairs
peers_all = refl

bool_insert : (s : Pairs) (p : ℕ × ℕ) (b : Bool) → set.len (if b then set.insert s p else s) ≤ set.len s + 1
bool_insert s p true = let e = set.len-insert pair_cmp_total s p in grind arith
bool_insert s p false = omega arith

among_few : (n : ℕ) → set.len (peers_among n) ≤ n
among_few zero = rw (peers_none, set.len-empty pair_cmp) (omega arith)
among_few (suc n) =
    let P : ℕ → Type 0 = λ k. set.len (peers_among k) ≤ k in
    subst P (add-one n) (rw (peers_more n) (omega (arith, bool_insert (peers_among n) (n / 60, n % 60) (are_peers (n / 60) (n % 60)), among_few n)))

pub peers_few : set.len peers ≤ PAIR_LIMIT
peers_few = let h = among_few 3600 in rw (sym peers_all) (omega arith)

pub none_few : set.len {R = pair_cmp} set.empty ≤ PAIR_LIMIT
none_few = rw (set.len-empty pair_cmp) (omega arith)

abbrev AreBelow : ℕ → Pairs → Type 0
AreBelow users pairs = AllPairs (λ u v. (u < users) × (v < users)) pairs

insert_below : (s : Pairs) (a b : ℕ) (c : Bool) → (a < 60) × (b < 60) → AreBelow 60 s → AreBelow 60 (if c then set.insert s (a, b) else s)
insert_below s a b true within all = all_insert (λ u v. (u < 60) × (v < 60)) s a b within all
insert_below s a b false within all = all

among_below : (n : ℕ) → n ≤ 3600 → AreBelow 60 (peers_among n)
among_below zero few = subst (AreBelow 60) (sym peers_none) (all_empty _)
among_below (suc n) few =
    let P : ℕ → Type 0 = λ k. AreBelow 60 (peers_among k) in
    let within : (n / 60 < 60) × (n % 60 < 60) = (omega arith, omega arith) in
    subst P (add-one n) (subst (AreBelow 60) (sym (peers_more n))
    (insert_below (peers_among n) (n / 60) (n % 60) (are_peers (n / 60) (n % 60)) within (among_below n (omega arith))))

pub peers_below : AreBelow 60 peers
peers_below = subst (AreBelow 60) peers_all (among_below 3600 (omega arith))

pub peers_users : AreBelow USER_LIMIT peers
peers_users = record { each = λ a b h. let within = peers_below.each a b h in (omega (arith, within.0), omega (arith, within.1)) }

pub none_users : AreBelow USER_LIMIT set.empty
none_users = all_empty _

-- the relations are of users of the roster
below_users : (rho : ℕ) (pairs : Pairs) → kind_of trial_relations rho ≡ Some (listed pairs) → AreBelow 60 pairs
unfolding trial_relations
below_users rho pairs e = grind (arith, peers_below)

pub roster_users : (seed : ℕ) → length (trial_roster seed).users ≡ 60
unfolding trial_roster
roster_users seed = users_count 60

pub roster_roles : (seed : ℕ) → length (trial_roster seed).roles ≡ 6
unfolding trial_roster
roster_roles seed = refl

pub relation_count : length trial_relations ≡ 2
unfolding trial_relations
relation_count = refl

pub related_users : (seed users : ℕ) → users ≡ length (trial_roster seed).users → AreOfUsers users trial_relations
related_users seed users e = subst (λ n. AreOfUsers n trial_relations) (sym (e ∙ roster_users seed)) below_users

-- what is made by one more pair of users
pub ruleset all_pairs = (peers_none, peers_more, peers_all)

-- what the declarations of both relations rest on
pub ruleset both = (apart_form, peer_form, peers_few, peers_users, none_few, none_users)

-- how many users, roles and relations there are
pub ruleset counts = (roster_roles, relation_count, related_users)
