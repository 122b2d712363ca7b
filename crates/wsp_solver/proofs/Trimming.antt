-- The branches of a node that are trimmed so far.
use Rattle.std.proofs.Common.{◌≡◌, refl, sym, ap, subst, ◌∙◌, ℕ, ◌+◌, ◌<◌, ◌≤◌, Bool, true, false, not, ◌&&◌, ◌||◌, ◌==◌, List, [], ◌∷◌, length, get_or, take}
use Rattle.std.proofs.Common.{drop, Option, Some, slice_set, ◌⊎◌, inl, inr, arith}
use Rattle.std.proofs.lemmas.Bool.{and_from}
use Rattle.std.proofs.lemmas.List.{drop_all}
use Rattle.basics.proofs.Booleans.{and_both, differ, or_cases, or_left, or_right}
use Rattle.constraint_forms.specs.Assign.{is_member}
use Rattle.refutation_tree.specs.Tree.{Shape, Kids, holder, rule, node, no_kids, tree_kid, twin_kid, joined, nodes_of, nodes_of_kids}
use Rattle.refutation_tree.specs.Laws.Views.{branch_onto, kid_onto, kids_of_items, shape_of}
use Rattle.refutation_tree.specs.declared.tree.Branch.{Branch}
use Rattle.refutation_tree.specs.declared.tree.Kid.{Kid}
use Rattle.refutation_tree.specs.declared.tree.Kid.TheVariants.{Tree as Tree_kid, Twin}
use Rattle.refutation_tree.specs.declared.tree.Tree.{Tree}
use Rattle.refutation_tree.proofs.ShapeLaws.{joined-assoc, joined-none, kids_of_items-drop, nodes-drop}
use Rattle.policy_book.specs.Laws.Plans.{Problem}
use Rattle.policy_book.specs.Laws.Twins.{are_twins, has_twin, is_one_of}
use Rattle.policy_book.specs.Laws.Refuting.{refutes, all_refute, authorised_users, have_users, is_unassigned, mentions}
use Rattle.policy_book.specs.Laws.Lean.{is_lean, are_lean}
use Rattle.certificate_check.specs.Walks.{AreUsersBelow, tree_users, kid_user_onto}
use Rattle.certificate_check.proofs.Trees.{one_of_all, one_of_more, passing_below, refutes_at, tree_user_below}
use Rattle.wsp_solver.specs.Searches.{AreMentioned, AreMentionedIn}
use Rattle.wsp_solver.specs.Lean.{kid_users}
use Rattle.wsp_solver.proofs.Members.{mentioned_push, mentioned_push_twin}
use Rattle.wsp_solver.proofs.Pushes.{below_push, below_push_twin, lean_push, lean_push_twin, nodes_push, nodes_push_twin, refute_push, refute_push_twin}
use Rattle.wsp_solver.proofs.Pushes.{tree_users_push, tree_users_push_twin}
use Rattle.wsp_solver.proofs.TwinUsers.{has_twin_from, kid_user_below, twin_of_covered, user_here}

-- a user has a tree among the kept branches, or a twin there who has
abbrev pub IsCovered : Problem → List (Option ℕ) → List ℕ → ℕ → Type 0
IsCovered p a users w = (is_one_of users w ≡ true) ⊎ (has_twin p a w users ≡ true)

pub record IsTrimmedFront (p : Problem) (a : List (Option ℕ)) (done : List Bool) (s : ℕ) (bs : List Branch) (i : ℕ) (kept : Kids) (steps : List Bool) :
    Type 0 where
  pub users : have_users (authorised_users p s) (joined kept (kids_of_items (drop i bs))) ≡ true
  pub refute : all_refute p a done s [] kept ≡ true
  pub lean : are_lean p a s [] kept ≡ true
  pub known : AreUsersBelow p.users kept
  pub covered : (w : ℕ) → is_one_of (tree_users [] (take i bs)) w ≡ true → IsCovered p a (kid_users [] kept) w
  pub left : all_refute p a done s (tree_users [] (take i bs)) (kids_of_items (drop i bs)) ≡ true
  pub few : nodes_of_kids kept + nodes_of_kids (kids_of_items (drop i bs)) ≤ nodes_of_kids (kids_of_items bs)
  pub said : AreMentionedIn p.rules kept steps

-- which users branches have does not depend on what is said of them
swap_first : (us : List ℕ) (kid : Kid) (u : ℕ) (rest : Kids) (t : Shape) → have_users us (kid_onto kid u rest) ≡ have_users us (tree_kid u t rest)
swap_first [] (Tree_kid x) u rest t = refl
swap_first [] (Twin v) u rest t = refl
swap_first (x ∷ xs) (Tree_kid y) u rest t = refl
swap_first (x ∷ xs) (Twin v) u rest t = refl

swap_tree : (us : List ℕ) (front : Kids) (kid : Kid) (u : ℕ) (rest : Kids) (t : Shape) →
    have_users us (joined front (kid_onto kid u rest)) ≡ have_users us (joined front (tree_kid u t rest))
swap_tree us no_kids kid u rest t = swap_first us kid u rest t
swap_tree [] (tree_kid v w front) kid u rest t = refl
swap_tree [] (twin_kid v w front) kid u rest t = refl
swap_tree (x ∷ xs) (tree_kid v w front) kid u rest t = ap (λ b. x == v && b) (swap_tree xs front kid u rest t)
swap_tree (x ∷ xs) (twin_kid v w front) kid u rest t = ap (λ b. x == v && b) (swap_tree xs front kid u rest t)

-- the branch at a place, and what is left behind it
pub next_users : (p : Problem) (s : ℕ) (bs : List Branch) (i : ℕ) (b : Branch) (front : Kids) (t : Shape) →
    i < length bs → b ≡ get_or bs i b → have_users (authorised_users p s) (joined front (kids_of_items (drop i bs))) ≡ true →
    have_users (authorised_users p s) (joined front (tree_kid b.user t (kids_of_items (drop (i + 1) bs)))) ≡ true
next_users p s bs i b front t below is users =
    sym (ap (λ k. have_users (authorised_users p s) (joined front k)) (kids_of_items-drop bs i b below is) ∙
    swap_tree (authorised_users p s) front b.kid b.user (kids_of_items (drop (i + 1) bs)) t) ∙ users

next_left : (p : Problem) (a : List (Option ℕ)) (done : List Bool) (s : ℕ) (bs : List Branch) (i : ℕ) (b : Branch) → i < length bs → b ≡ get_or bs i b →
    all_refute p a done s (tree_users [] (take i bs)) (kids_of_items (drop i bs)) ≡ true →
    (all_refute p a done s (tree_users [] (take i bs)) (branch_onto b no_kids) ≡ true) ×
    (all_refute p a done s (tree_users [] (take (i + 1) bs)) (kids_of_items (drop (i + 1) bs)) ≡ true)
next_left p a done s bs i b below is left =
    and_both (all_refute p a done s (tree_users [] (take i bs)) (branch_onto b no_kids))
    (all_refute p a done s (tree_users [] (take (i + 1) bs)) (kids_of_items (drop (i + 1) bs)))
    (sym (refutes_at p a done s bs i b below is) ∙ left)

-- the tree of a branch refutes once the step is given to its user
pub tree_refutes : (p : Problem) (a : List (Option ℕ)) (done : List Bool) (s : ℕ) (bs : List Branch) (i : ℕ) (b : Branch)
    (kept : Kids) (steps : List Bool) (t : Tree) → i < length bs → b ≡ get_or bs i b → b.kid ≡ Tree_kid t → IsTrimmedFront p a done s bs i kept steps →
    refutes p (slice_set a s (Some b.user)) done (shape_of t) ≡ true
tree_refutes p a done s bs i b kept steps t below is kid front =
    let here = (next_left p a done s bs i b below is front.left).0 in
    (and_both (refutes p (slice_set a s (Some b.user)) done (shape_of t)) true
    (ap (λ k. all_refute p a done s (tree_users [] (take i bs)) (kid_onto k b.user no_kids)) (sym kid) ∙ here)).0

-- a leaf of a twin always finds a twin among the kept branches with trees
pub twin_is_found : (p : Problem) (a : List (Option ℕ)) (done : List Bool) (s : ℕ) (bs : List Branch) (i : ℕ) (b : Branch) (kept : Kids) (steps : List Bool)
    (v : ℕ) → i < length bs → b ≡ get_or bs i b → b.kid ≡ Twin v → b.user < p.users → have_users (authorised_users p s) (kids_of_items bs) ≡ true →
    IsTrimmedFront p a done s bs i kept steps → has_twin p a b.user (kid_users [] kept) ≡ false → ⊥
twin_is_found p a done s bs i b kept steps v below is kid known users front none =
    let here = (next_left p a done s bs i b below is front.left).0 in
    let leaf = (and_both (is_one_of (tree_users [] (take i bs)) v && are_twins p a b.user v) true
    (ap (λ k. all_refute p a done s (tree_users [] (take i bs)) (kid_onto k b.user no_kids)) (sym kid) ∙ here)).0 in
    let twin = and_both (is_one_of (tree_users [] (take i bs)) v) (are_twins p a b.user v) leaf in
    let v_known =
    tree_user_below p.users bs v (passing_below (p.authorised s) 0 p.users p.users (omega arith) (kids_of_items bs) users) (one_of_all i bs v twin.0) in
    differ (has_twin p a b.user (kid_users [] kept))
    (twin_of_covered p a b.user v (kid_users [] kept) known v_known (λ w h. kid_user_below p.users kept w front.known h) twin.1 (front.covered v twin.0)) none

-- who was covered still is, with one more tree
more_covered : (p : Problem) (a : List (Option ℕ)) (u w : ℕ) (users : List ℕ) → IsCovered p a users w → IsCovered p a (u ∷ users) w
more_covered p a u w users h5 = grind (arith, or_right)

some_shape : (t : Shape) → 1 ≤ nodes_of t
some_shape (holder s) = omega arith
some_shape (rule k) = omega arith
some_shape (node s kids) = omega arith

pub front_twin : (p : Problem) (a : List (Option ℕ)) (done : List Bool) (s : ℕ) (bs : List Branch) (i : ℕ) (b : Branch) (kept : Kids) (steps : List Bool)
    (v : ℕ) → i < length bs → b ≡ get_or bs i b → b.user < p.users → is_one_of (kid_users [] kept) v ≡ true → are_twins p a b.user v ≡ true →
    IsTrimmedFront p a done s bs i kept steps → IsTrimmedFront p a done s bs (i + 1) (joined kept (twin_kid b.user v no_kids)) steps
front_twin p a done s bs i b kept steps v below is known among twins front = record {
  users = ap (have_users (authorised_users p s)) (joined-assoc kept (twin_kid b.user v no_kids) rest) ∙
      swap_tree (authorised_users p s) kept (Twin v) b.user rest (node 0 no_kids) ∙ next_users p s bs i b kept (node 0 no_kids) below is front.users;
  refute = refute_push_twin p a done s b.user v kept [] front.refute among twins;
  lean = lean_push_twin p a s b.user v kept [] front.lean;
  known = below_push_twin p.users b.user v kept known front.known;
  covered = λ w h. subst (λ users. IsCovered p a users w) (sym same)
      (cover w (or_cases (is_one_of (kid_user_onto b.kid b.user []) w) (is_one_of (tree_users [] (take i bs)) w) (sym (one_of_more bs i b w below is) ∙ h)));
  left = (next_left p a done s bs i b below is front.left).1;
  few = omega (arith, front.few, nodes_push_twin b.user v kept, nodes-drop bs i b below is, some_nodes b.kid b.user);
  said = mentioned_push_twin p.rules kept b.user v steps front.said;
}
  where
    rest : Kids
    rest = kids_of_items (drop (i + 1) bs)

    same : kid_users [] (joined kept (twin_kid b.user v no_kids)) ≡ kid_users [] kept
    same = tree_users_push_twin b.user v kept []

    cover : (w : ℕ) → (is_one_of (kid_user_onto b.kid b.user []) w ≡ true) ⊎ (is_one_of (tree_users [] (take i bs)) w ≡ true) →
        IsCovered p a (kid_users [] kept) w
    cover w (inl here) = inr (subst (λ x. has_twin p a x (kid_users [] kept) ≡ true) (user_here b.kid b.user w here)
        (has_twin_from p a b.user v (kid_users [] kept) among twins))
    cover w (inr before) = front.covered w before

    some_nodes : (kid : Kid) (u : ℕ) → 1 ≤ nodes_of_kids (kid_onto kid u no_kids)
    some_nodes (Tree_kid t) u = omega (arith, some_shape (shape_of t))
    some_nodes (Twin w) u = omega arith

pub front_tree : (p : Problem) (a : List (Option ℕ)) (done : List Bool) (s : ℕ) (bs : List Branch) (i : ℕ) (b : Branch) (kept : Kids)
    (before here after : List Bool) (old : Tree) (t : Shape) → i < length bs → b ≡ get_or bs i b → b.user < p.users → b.kid ≡ Tree_kid old →
    refutes p (slice_set a s (Some b.user)) done t ≡ true → is_lean p (slice_set a s (Some b.user)) t ≡ true →
    mentions p.rules s t ≡ true → has_twin p a b.user (kid_users [] kept) ≡ false → nodes_of t ≤ nodes_of (shape_of old) → AreMentioned p.rules t here →
    ((x : ℕ) → is_member after x ≡ (is_member before x || is_member here x)) →
    IsTrimmedFront p a done s bs i kept before → IsTrimmedFront p a done s bs (i + 1) (joined kept (tree_kid b.user t no_kids)) after
front_tree p a done s bs i b kept before here after old t below is known kid refuting lean named alone few said both front = record {
  users = ap (have_users (authorised_users p s)) (joined-assoc kept (tree_kid b.user t no_kids) rest) ∙ next_users p s bs i b kept t below is front.users;
  refute = refute_push p a done s b.user t kept [] front.refute refuting;
  lean = lean_push p a s b.user t kept [] front.lean
      (and_from (is_lean p (slice_set a s (Some b.user)) t) (mentions p.rules s t && not (has_twin p a b.user (kid_users [] kept))) lean
      (and_from (mentions p.rules s t) (not (has_twin p a b.user (kid_users [] kept))) named (ap not alone)));
  known = below_push p.users b.user t kept known front.known;
  covered = λ w h. subst (λ users. IsCovered p a users w) (sym same)
      (cover w (or_cases (is_one_of (kid_user_onto b.kid b.user []) w) (is_one_of (tree_users [] (take i bs)) w) (sym (one_of_more bs i b w below is) ∙ h)));
  left = (next_left p a done s bs i b below is front.left).1;
  few = omega (arith, front.few, few, nodes_push b.user t kept, nodes-drop bs i b below is, ap (λ k. nodes_of_kids (kid_onto k b.user no_kids)) kid);
  said = mentioned_push p.rules kept b.user t before here after front.said said both;
}
  where
    rest : Kids
    rest = kids_of_items (drop (i + 1) bs)

    same : kid_users [] (joined kept (tree_kid b.user t no_kids)) ≡ b.user ∷ kid_users [] kept
    same = tree_users_push b.user t kept []

    own : (u w : ℕ) (users : List ℕ) → u ≡ w → is_one_of (u ∷ users) w ≡ true
    own u w users e = or_left (u == w) (is_one_of users w) (eq_same u w e)
      where
        eq_same : (m n : ℕ) → m ≡ n → (m == n) ≡ true
        eq_same m n e = grind arith

    cover : (w : ℕ) → (is_one_of (kid_user_onto b.kid b.user []) w ≡ true) ⊎ (is_one_of (tree_users [] (take i bs)) w ≡ true) →
        IsCovered p a (b.user ∷ kid_users [] kept) w
    cover w (inl first) = inl (own b.user w (kid_users [] kept) (user_here b.kid b.user w first))
    cover w (inr earlier) = more_covered p a b.user w (kid_users [] kept) (front.covered w earlier)

-- what is kept where no branch is left
pub record IsTrimmedNode (p : Problem) (a : List (Option ℕ)) (done : List Bool) (s : ℕ) (old kept : Kids) (steps : List Bool) : Type 0 where
  pub refutes : refutes p a done (node s kept) ≡ true
  pub lean : is_lean p a (node s kept) ≡ true
  pub few : nodes_of (node s kept) ≤ nodes_of (node s old)
  pub said : AreMentioned p.rules (node s kept) steps

pub front_end : (p : Problem) (a : List (Option ℕ)) (done : List Bool) (s : ℕ) (bs : List Branch) (i : ℕ) (kept : Kids) (steps : List Bool) →
    length bs ≤ i → is_unassigned p a s ≡ true → IsTrimmedFront p a done s bs i kept steps → IsTrimmedNode p a done s (kids_of_items bs) kept steps
front_end p a done s bs i kept steps past free front = grind (arith, and_from, joined-none, drop_all)
