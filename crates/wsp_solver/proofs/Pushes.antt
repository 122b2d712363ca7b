-- Branches with one more at the end: with a tree, or with the leaf of a twin.
use Rattle.std.proofs.Common.{◌≡◌, refl, ℕ, ◌+◌, ◌<◌, Bool, true, not, ◌&&◌, List, ◌∷◌, Option, Some, slice_set, eq-eqb}
use Rattle.std.proofs.Common.{arith}
use Rattle.std.proofs.lemmas.Bool.{and_from}
use Rattle.basics.proofs.Booleans.{and_both}
use Rattle.refutation_tree.specs.Tree.{Shape, Kids, no_kids, tree_kid, twin_kid, joined, nodes_of, nodes_of_kids}
use Rattle.refutation_tree.proofs.ShapeLaws.{joined-assoc}
use Rattle.policy_book.specs.Laws.Plans.{Problem}
use Rattle.policy_book.specs.Laws.Twins.{are_twins, has_twin, is_one_of}
use Rattle.policy_book.specs.Laws.Refuting.{refutes, all_refute, mentions}
use Rattle.policy_book.specs.Laws.Lean.{is_lean, are_lean}
use Rattle.certificate_check.specs.Walks.{AreUsersBelow}
use Rattle.policy_book.proofs.Passing.{passing_at}
use Rattle.wsp_solver.specs.Searches.{AreOfUsersBelow}
use Rattle.wsp_solver.specs.Lean.{kid_users}

-- ---- users

pub users_push : (test : ℕ → Bool) (u n : ℕ) (front : Kids) (t : Shape) → u < n → test u ≡ true → AreOfUsersBelow test u n front →
    AreOfUsersBelow test (u + 1) n (joined front (tree_kid u t no_kids))
users_push test u n front t below passes so_far = grind (arith, passing_at, joined-assoc, and_from, eq-eqb)

pub users_push_twin : (test : ℕ → Bool) (u v n : ℕ) (front : Kids) → u < n → test u ≡ true → AreOfUsersBelow test u n front →
    AreOfUsersBelow test (u + 1) n (joined front (twin_kid u v no_kids))
users_push_twin test u v n front below passes so_far = grind (arith, passing_at, joined-assoc, and_from, eq-eqb)

pub below_push : (n u : ℕ) (t : Shape) (front : Kids) → u < n → AreUsersBelow n front → AreUsersBelow n (joined front (tree_kid u t no_kids))
below_push n u t no_kids known h = (known, h)
below_push n u t (tree_kid v w front) known h = (h.0, below_push n u t front known h.1)
below_push n u t (twin_kid v w front) known h = (h.0, below_push n u t front known h.1)

pub below_push_twin : (n u v : ℕ) (front : Kids) → u < n → AreUsersBelow n front → AreUsersBelow n (joined front (twin_kid u v no_kids))
below_push_twin n u v no_kids known h = (known, h)
below_push_twin n u v (tree_kid x w front) known h = (h.0, below_push_twin n u v front known h.1)
below_push_twin n u v (twin_kid x w front) known h = (h.0, below_push_twin n u v front known h.1)

pub tree_users_push : (u : ℕ) (t : Shape) (front : Kids) (users : List ℕ) → kid_users users (joined front (tree_kid u t no_kids)) ≡ u ∷ kid_users users front
tree_users_push u t no_kids users = refl
tree_users_push u t (tree_kid v w front) users = tree_users_push u t front (v ∷ users)
tree_users_push u t (twin_kid v w front) users = tree_users_push u t front users

pub tree_users_push_twin : (u v : ℕ) (front : Kids) (users : List ℕ) → kid_users users (joined front (twin_kid u v no_kids)) ≡ kid_users users front
tree_users_push_twin u v no_kids users = refl
tree_users_push_twin u v (tree_kid x w front) users = tree_users_push_twin u v front (x ∷ users)
tree_users_push_twin u v (twin_kid x w front) users = tree_users_push_twin u v front users

-- ---- refuting

pub refute_push : (p : Problem) (a : List (Option ℕ)) (done : List Bool) (s u : ℕ) (t : Shape) (front : Kids) (earlier : List ℕ) → all_refute p a done s
    earlier front ≡ true → refutes p (slice_set a s (Some u)) done t ≡ true → all_refute p a done s earlier (joined front (tree_kid u t no_kids)) ≡ true
refute_push p a done s u t no_kids earlier so_far here = and_from (refutes p (slice_set a s (Some u)) done t) true here refl
refute_push p a done s u t (tree_kid v w front) earlier so_far here =
    let both = and_both (refutes p (slice_set a s (Some v)) done w) (all_refute p a done s (v ∷ earlier) front) so_far in
    and_from (refutes p (slice_set a s (Some v)) done w) (all_refute p a done s (v ∷ earlier) (joined front (tree_kid u t no_kids))) both.0
    (refute_push p a done s u t front (v ∷ earlier) both.1 here)
refute_push p a done s u t (twin_kid v w front) earlier so_far here =
    let both = and_both (is_one_of earlier w && are_twins p a v w) (all_refute p a done s earlier front) so_far in
    and_from (is_one_of earlier w && are_twins p a v w) (all_refute p a done s earlier (joined front (tree_kid u t no_kids))) both.0
    (refute_push p a done s u t front earlier both.1 here)

pub refute_push_twin : (p : Problem) (a : List (Option ℕ)) (done : List Bool) (s u v : ℕ) (front : Kids) (earlier : List ℕ) →
    all_refute p a done s earlier front ≡ true → is_one_of (kid_users earlier front) v ≡ true → are_twins p a u v ≡ true →
    all_refute p a done s earlier (joined front (twin_kid u v no_kids)) ≡ true
refute_push_twin p a done s u v no_kids earlier so_far among twins =
    and_from (is_one_of earlier v && are_twins p a u v) true (and_from (is_one_of earlier v) (are_twins p a u v) among twins) refl
refute_push_twin p a done s u v (tree_kid x w front) earlier so_far among twins =
    let both = and_both (refutes p (slice_set a s (Some x)) done w) (all_refute p a done s (x ∷ earlier) front) so_far in
    and_from (refutes p (slice_set a s (Some x)) done w) (all_refute p a done s (x ∷ earlier) (joined front (twin_kid u v no_kids))) both.0
    (refute_push_twin p a done s u v front (x ∷ earlier) both.1 among twins)
refute_push_twin p a done s u v (twin_kid x w front) earlier so_far among twins =
    let both = and_both (is_one_of earlier w && are_twins p a x w) (all_refute p a done s earlier front) so_far in
    and_from (is_one_of earlier w && are_twins p a x w) (all_refute p a done s earlier (joined front (twin_kid u v no_kids))) both.0
    (refute_push_twin p a done s u v front earlier both.1 among twins)

-- ---- lean

-- a branch with a tree that is lean beside branches of these users with trees
abbrev pub is_lean_branch : Problem → List (Option ℕ) → ℕ → List ℕ → ℕ → Shape → Bool
is_lean_branch p a s users u t = is_lean p (slice_set a s (Some u)) t && (mentions p.rules s t && not (has_twin p a u users))

pub lean_push : (p : Problem) (a : List (Option ℕ)) (s u : ℕ) (t : Shape) (front : Kids) (earlier : List ℕ) → are_lean p a s earlier front ≡ true →
    is_lean_branch p a s (kid_users earlier front) u t ≡ true → are_lean p a s earlier (joined front (tree_kid u t no_kids)) ≡ true
lean_push p a s u t no_kids earlier so_far here = and_from (is_lean_branch p a s earlier u t) true here refl
lean_push p a s u t (tree_kid v w front) earlier so_far here =
    let both = and_both (is_lean_branch p a s earlier v w) (are_lean p a s (v ∷ earlier) front) so_far in
    and_from (is_lean_branch p a s earlier v w) (are_lean p a s (v ∷ earlier) (joined front (tree_kid u t no_kids))) both.0
    (lean_push p a s u t front (v ∷ earlier) both.1 here)
lean_push p a s u t (twin_kid v w front) earlier so_far here = lean_push p a s u t front earlier so_far here

pub lean_push_twin : (p : Problem) (a : List (Option ℕ)) (s u v : ℕ) (front : Kids) (earlier : List ℕ) → are_lean p a s earlier front ≡ true →
    are_lean p a s earlier (joined front (twin_kid u v no_kids)) ≡ true
lean_push_twin p a s u v no_kids earlier so_far = refl
lean_push_twin p a s u v (tree_kid x w front) earlier so_far =
    let both = and_both (is_lean_branch p a s earlier x w) (are_lean p a s (x ∷ earlier) front) so_far in
    and_from (is_lean_branch p a s earlier x w) (are_lean p a s (x ∷ earlier) (joined front (twin_kid u v no_kids))) both.0
    (lean_push_twin p a s u v front (x ∷ earlier) both.1)
lean_push_twin p a s u v (twin_kid x w front) earlier so_far = lean_push_twin p a s u v front earlier so_far

-- ---- leaves and nodes

pub nodes_push : (u : ℕ) (t : Shape) (front : Kids) → nodes_of_kids (joined front (tree_kid u t no_kids)) ≡ nodes_of_kids front + nodes_of t
nodes_push u t no_kids = omega arith
nodes_push u t (tree_kid v w front) = omega (arith, nodes_push u t front)
nodes_push u t (twin_kid v w front) = omega (arith, nodes_push u t front)

pub nodes_push_twin : (u v : ℕ) (front : Kids) → nodes_of_kids (joined front (twin_kid u v no_kids)) ≡ nodes_of_kids front + 1
nodes_push_twin u v no_kids = omega arith
nodes_push_twin u v (tree_kid x w front) = omega (arith, nodes_push_twin u v front)
nodes_push_twin u v (twin_kid x w front) = omega (arith, nodes_push_twin u v front)
