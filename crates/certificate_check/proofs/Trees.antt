-- The walk over a tree's branches.
use Rattle.std.proofs.Common.{◌≡◌, refl, sym, ap, subst, ◌∙◌, ℕ, zero, suc, ◌+◌, ◌-◌, ◌<◌, ◌≤◌, Bool, true, false, ◌&&◌, ◌||◌, ◌==◌, List, [], ◌∷◌, length}
use Rattle.std.proofs.Common.{get_or, take, drop, ◌++◌, Option, Some, slice_set, arith, if◌then◌else◌, ◌⊎◌, inl, inr}
use Rattle.std.proofs.lemmas.Bool.{false≢true, ltb-true, eqb-true, ne_eqb}
use Rattle.std.proofs.lemmas.Bool.Decides.{nat_tests}
use Rattle.std.proofs.lemmas.List.{drop-drop, length-drop, take_more}
use Rattle.constraint_forms.specs.declared.rule.Rule.{Rule}
use Rattle.refutation_tree.specs.Tree.{Kids, no_kids, tree_kid, twin_kid, kids_from, kid_count, nodes_of_kids}
use Rattle.refutation_tree.specs.Laws.Views.{kid_onto, branch_onto, kids_of_items}
use Rattle.refutation_tree.specs.declared.tree.Branch.{Branch}
use Rattle.refutation_tree.specs.declared.tree.Kid.{Kid}
use Rattle.refutation_tree.specs.declared.tree.Kid.TheVariants.{Tree as Tree_kid, Twin}
use Rattle.refutation_tree.proofs.ShapeLaws.{kids_of_items-drop, kids_from-items, kid_count-items, nodes-drop}
use Rattle.policy_book.specs.Laws.Plans.{Problem, IsWithin}
use Rattle.policy_book.specs.Laws.Twins.{is_one_of}
use Rattle.policy_book.specs.Laws.Refuting.{all_refute, have_users, authorised_users, passing, any_mentions, is_unassigned}
use Rattle.certificate_check.specs.Walks.{AreUsersBelow, begins_with, tree_users, kid_user_onto}
use Rattle.basics.proofs.Booleans.{and_both, or-false, or_cases, or_right}
use Rattle.certificate_check.proofs.Assigned.{given, either}
use Rattle.policy_book.proofs.Passing.{passing_at}

-- ---- mentions

onto_mentions : (rules : List Rule) (s : ℕ) (kid : Kid) (u : ℕ) (rest : Kids) →
    any_mentions rules s (kid_onto kid u rest) ≡ (any_mentions rules s (kid_onto kid u no_kids) || any_mentions rules s rest)
onto_mentions rules s kid u rest = grind (arith, or-false)

-- the branches from a place on mention a step: the one there or one behind it
pub mentions_at : (rules : List Rule) (s : ℕ) (bs : List Branch) (i : ℕ) (b : Branch) → i < length bs → b ≡ get_or bs i b → any_mentions rules s
    (kids_of_items (drop i bs)) ≡ (any_mentions rules s (branch_onto b no_kids) || any_mentions rules s (kids_of_items (drop (i + 1) bs)))
mentions_at rules s bs i b below is = ap (any_mentions rules s) (kids_of_items-drop bs i b below is) ∙
    onto_mentions rules s b.kid b.user (kids_of_items (drop (i + 1) bs))

-- ---- all refute

and_all : (b d : Bool) → (b && d) ≡ ((b && true) && d)
and_all b d = grind arith

onto_refutes : (p : Problem) (a : List (Option ℕ)) (done : List Bool) (s : ℕ) (earlier : List ℕ) (kid : Kid) (u : ℕ) (rest : Kids) → all_refute p a done s
    earlier (kid_onto kid u rest) ≡ (all_refute p a done s earlier (kid_onto kid u no_kids) && all_refute p a done s (kid_user_onto kid u earlier) rest)
onto_refutes p a done s earlier kid u rest = grind (arith, and_all)

tree_users-push : (users : List ℕ) (bs : List Branch) (b : Branch) → tree_users users (bs ++ b ∷ []) ≡ kid_user_onto b.kid b.user (tree_users users bs)
tree_users-push users [] b = refl
tree_users-push users (x ∷ bs) b = tree_users-push (kid_user_onto x.kid x.user users) bs b

pub tree_users-more : (bs : List Branch) (i : ℕ) (b : Branch) → i < length bs → b ≡ get_or bs i b →
    tree_users [] (take (i + 1) bs) ≡ kid_user_onto b.kid b.user (tree_users [] (take i bs))
tree_users-more bs i b below is =
    ap (tree_users []) (take_more bs i b below ∙ ap (λ x. take i bs ++ x ∷ []) (sym is)) ∙ tree_users-push [] (take i bs) b

-- the branches from a place on refute: the one there, and those behind it
pub refutes_at : (p : Problem) (a : List (Option ℕ)) (done : List Bool) (s : ℕ) (bs : List Branch) (i : ℕ) (b : Branch) → i < length bs → b ≡ get_or bs i b →
    all_refute p a done s (tree_users [] (take i bs)) (kids_of_items (drop i bs))
    ≡ (all_refute p a done s (tree_users [] (take i bs)) (branch_onto b no_kids) &&
    all_refute p a done s (tree_users [] (take (i + 1) bs)) (kids_of_items (drop (i + 1) bs)))
refutes_at p a done s bs i b below is =
    ap (all_refute p a done s (tree_users [] (take i bs))) (kids_of_items-drop bs i b below is)
    ∙ onto_refutes p a done s (tree_users [] (take i bs)) b.kid b.user (kids_of_items (drop (i + 1) bs))
    ∙ ap (λ users. all_refute p a done s (tree_users [] (take i bs)) (branch_onto b no_kids) &&
    all_refute p a done s users (kids_of_items (drop (i + 1) bs))) (sym (tree_users-more bs i b below is))

-- ---- users with trees

onto_one : (kid : Kid) (u : ℕ) (users : List ℕ) (x : ℕ) → is_one_of (kid_user_onto kid u users) x ≡ (is_one_of (kid_user_onto kid u []) x || is_one_of users x)
onto_one kid u users x = grind (arith, or-false)

-- one more branch: it is the user's and has a tree, or one before it
pub one_of_more : (bs : List Branch) (i : ℕ) (b : Branch) (x : ℕ) → i < length bs → b ≡ get_or bs i b →
    is_one_of (tree_users [] (take (i + 1) bs)) x ≡ (is_one_of (kid_user_onto b.kid b.user []) x || is_one_of (tree_users [] (take i bs)) x)
one_of_more bs i b x below is = ap (λ users. is_one_of users x) (tree_users-more bs i b below is) ∙ onto_one b.kid b.user (tree_users [] (take i bs)) x

onto_keeps : (kid : Kid) (u : ℕ) (users : List ℕ) (x : ℕ) → is_one_of users x ≡ true → is_one_of (kid_user_onto kid u users) x ≡ true
onto_keeps kid u users x h = onto_one kid u users x ∙ or_right (is_one_of (kid_user_onto kid u []) x) (is_one_of users x) h

tree_users-keep : (bs : List Branch) (users : List ℕ) (x : ℕ) → is_one_of users x ≡ true → is_one_of (tree_users users bs) x ≡ true
tree_users-keep [] users x h = h
tree_users-keep (b ∷ bs) users x h = tree_users-keep bs (kid_user_onto b.kid b.user users) x (onto_keeps b.kid b.user users x h)

tree_users-take : (n : ℕ) (bs : List Branch) (users : List ℕ) (x : ℕ) → is_one_of (tree_users users (take n bs)) x ≡ true →
    is_one_of (tree_users users bs) x ≡ true
tree_users-take zero bs users x h = tree_users-keep bs users x h
tree_users-take (suc n) [] users x h = h
tree_users-take (suc n) (b ∷ bs) users x h = tree_users-take n bs (kid_user_onto b.kid b.user users) x h

-- a user among the first branches with trees is among all
pub one_of_all : (n : ℕ) (bs : List Branch) (x : ℕ) → is_one_of (tree_users [] (take n bs)) x ≡ true → is_one_of (tree_users [] bs) x ≡ true
one_of_all n bs x h = tree_users-take n bs [] x h

onto_below : (n : ℕ) (kid : Kid) (u : ℕ) (rest : Kids) → AreUsersBelow n (kid_onto kid u rest) → (u < n) × AreUsersBelow n rest
onto_below n kid u rest h = grind arith

-- a user whose branch has a tree is a user of the branches
tree_users-below : (n : ℕ) (bs : List Branch) (users : List ℕ) (x : ℕ) → AreUsersBelow n (kids_of_items bs) → (is_one_of users x ≡ true → x < n) →
    is_one_of (tree_users users bs) x ≡ true → x < n
tree_users-below n [] users x known before h = before h
tree_users-below n (b ∷ bs) users x known before h =
    let parts = onto_below n b.kid b.user (kids_of_items bs) known in
    tree_users-below n bs (kid_user_onto b.kid b.user users) x parts.1
    (λ e. onto_known b.kid parts.0 (or_cases (is_one_of (kid_user_onto b.kid b.user []) x) (is_one_of users x) (sym (onto_one b.kid b.user users x) ∙ e))) h
  where
    onto_known : (kid : Kid) → b.user < n → (is_one_of (kid_user_onto kid b.user []) x ≡ true) ⊎ (is_one_of users x ≡ true) → x < n
    onto_known kid known (inr old) = before old
    onto_known (Tree_kid t) known (inl own) =
        subst (λ y. y < n) (either (or_cases (b.user == x) false own) (λ e. eqb-true b.user x e) (λ e. absurd (false≢true e))) known
    onto_known (Twin v) known (inl own) = absurd (false≢true own)

pub tree_user_below : (n : ℕ) (bs : List Branch) (x : ℕ) → AreUsersBelow n (kids_of_items bs) → is_one_of (tree_users [] bs) x ≡ true → x < n
tree_user_below n bs x known h = tree_users-below n bs [] x known (λ e. absurd (false≢true e)) h

-- ---- users

pub have_users-begin : (u : ℕ) (us : List ℕ) (kids : Kids) → have_users (u ∷ us) kids ≡ (begins_with u kids && have_users us (kids_from 1 kids))
have_users-begin u us kids = grind arith

-- a user's branch comes next, or not, and the others have theirs behind it
pub users_next : (u : ℕ) (us : List ℕ) (bs : List Branch) (i : ℕ) (b : Bool) → b ≡ begins_with u (kids_of_items (drop i bs)) →
    have_users (u ∷ us) (kids_of_items (drop i bs)) ≡ (b && have_users us (kids_of_items (drop (i + 1) bs)))
users_next u us bs i b is =
    have_users-begin u us (kids_of_items (drop i bs)) ∙ ap (λ x. x && have_users us (kids_from 1 (kids_of_items (drop i bs)))) (sym is)
    ∙ ap (λ k. b && have_users us k) (kids_from-items 1 (drop i bs) ∙ ap kids_of_items (drop-drop 1 i bs))

have_none : (kids : Kids) → have_users [] kids ≡ (kid_count kids == 0)
have_none kids = grind (arith, ne_eqb)

-- no user is left where no branch is
pub none_next : (bs : List Branch) (i : ℕ) → i ≤ length bs → have_users [] (kids_of_items (drop i bs)) ≡ (i == length bs)
none_next bs i within = grind (arith, kid_count-items, length-drop, have_none, nat_tests)

-- where nobody passes up to a number, those from there on are left
passing_skip : (test : ℕ → Bool) (from k n : ℕ) → from + k ≤ n → ((v : ℕ) → from ≤ v → v < from + k → test v ≡ false) →
    passing test from (n - from) ≡ passing test (from + k) (n - (from + k))
passing_skip test from zero n within none = grind arith
passing_skip test from (suc k) n within none =
    grind (arith, passing_at, (passing_skip test from k n (omega (arith, within)) (λ v low lt. none v low (omega (arith, lt)))))

-- the next who passes comes first
pub passing_next : (test : ℕ → Bool) (from u n : ℕ) → from ≤ u → u < n → ((v : ℕ) → from ≤ v → v < u → test v ≡ false) → test u ≡ true →
    passing test from (n - from) ≡ u ∷ passing test (u + 1) (n - (u + 1))
passing_next test from u n low within none passes =
    let at : from + (u - from) ≡ u = omega (arith, low) in
    let left = passing test (u + 1) (n - (u + 1)) in
    passing_skip test from (u - from) n (omega (arith, at, within)) (λ v h lt. none v h (omega (arith, lt, at))) ∙ ap (λ m. passing test m (n - m)) at ∙
    passing_at test u n within ∙ ap (λ b. if b then u ∷ left else left) passes

-- nobody is left where nobody passes any more
pub passing_end : (test : ℕ → Bool) (from n : ℕ) → from ≤ n → ((v : ℕ) → from ≤ v → test v ≡ false) → passing test from (n - from) ≡ []
passing_end test from n low none =
    let at : from + (n - from) ≡ n = omega (arith, low) in
    let over : n - n ≡ zero = omega arith in
    passing_skip test from (n - from) n (omega (arith, at)) (λ v h lt. none v h) ∙ ap (λ m. passing test m (n - m)) at ∙ ap (passing test n) over

pub passing_below : (test : ℕ → Bool) (k n most : ℕ) → k + n ≤ most → (kids : Kids) → have_users (passing test k n) kids ≡ true → AreUsersBelow most kids
passing_below test k zero most few no_kids h = tt
passing_below test k zero most few (tree_kid v t kids) h = absurd (false≢true h)
passing_below test k zero most few (twin_kid v w kids) h = absurd (false≢true h)
passing_below test k (suc n) most few kids h = at (test k) kids h (λ rest e. passing_below test (k + 1) n most (omega arith) rest e)
  where
    at : (b : Bool) (left : Kids) → have_users (if b then k ∷ passing test (k + 1) n else passing test (k + 1) n) left ≡ true →
        ((rest : Kids) → have_users (passing test (k + 1) n) rest ≡ true → AreUsersBelow most rest) → AreUsersBelow most left
    at true no_kids e later = absurd (false≢true e)
    at true (tree_kid v t rest) e later =
        let both = and_both (k == v) (have_users (passing test (k + 1) n) rest) e in
        (omega (arith, few, eqb-true k v both.0), later rest both.1)
    at true (twin_kid v w rest) e later =
        let both = and_both (k == v) (have_users (passing test (k + 1) n) rest) e in
        (omega (arith, few, eqb-true k v both.0), later rest both.1)
    at false left e later = later left e

below_onto : (n : ℕ) (kid : Kid) (u : ℕ) (rest : Kids) → u < n → AreUsersBelow n rest → AreUsersBelow n (kid_onto kid u rest)
below_onto n kid u rest known h = grind arith

-- the first branches are of users as all are
pub first_below : (n i : ℕ) (bs : List Branch) → AreUsersBelow n (kids_of_items bs) → AreUsersBelow n (kids_of_items (take i bs))
first_below n zero bs h = tt
first_below n (suc i) [] h = tt
first_below n (suc i) (b ∷ bs) h =
    let parts = onto_below n b.kid b.user (kids_of_items bs) h in
    below_onto n b.kid b.user (kids_of_items (take i bs)) parts.0 (first_below n i bs parts.1)

pub user_below : (n : ℕ) (bs : List Branch) (i : ℕ) → i < length bs → (b : Branch) → b ≡ get_or bs i b → AreUsersBelow n (kids_of_items bs) → b.user < n
user_below n [] i below b is h = absurd (omega arith)
user_below n (x ∷ bs) zero below b is h = subst (λ (y : Branch). y.user < n) (sym is) (onto_below n x.kid x.user (kids_of_items bs) h).0
user_below n (x ∷ bs) (suc i) below b is h = user_below n bs i (omega arith) b is (onto_below n x.kid x.user (kids_of_items bs) h).1

-- the user of each branch is a user of the policy
pub branch_user : (p : Problem) (s : ℕ) (bs : List Branch) → have_users (authorised_users p s) (kids_of_items bs) ≡ true → (i : ℕ) → i < length bs →
    (b : Branch) → b ≡ get_or bs i b → b.user < p.users
branch_user p s bs users i below b is =
    user_below p.users bs i below b is (passing_below (p.authorised s) 0 p.users p.users (omega arith) (kids_of_items bs) users)

-- ---- nodes

onto_nodes : (kid : Kid) (u : ℕ) (rest : Kids) → nodes_of_kids rest ≤ nodes_of_kids (kid_onto kid u rest)
onto_nodes kid u rest = grind arith

nodes_left : (i : ℕ) (bs : List Branch) → nodes_of_kids (kids_of_items (drop i bs)) ≤ nodes_of_kids (kids_of_items bs)
nodes_left zero bs = omega arith
nodes_left (suc i) [] = omega arith
nodes_left (suc i) (x ∷ bs) = omega (arith, nodes_left i bs, onto_nodes x.kid x.user (kids_of_items bs))

pub nodes_within : (bs : List Branch) (i : ℕ) (b : Branch) → i < length bs → b ≡ get_or bs i b →
    nodes_of_kids (branch_onto b no_kids) ≤ nodes_of_kids (kids_of_items bs)
nodes_within bs i b below is = omega (arith, nodes-drop bs i b below is, nodes_left i bs)

-- ---- what is assigned

pub within_given : (p : Problem) (a : List (Option ℕ)) (s u : ℕ) → IsWithin p a → is_unassigned p a s ≡ true → u < p.users → IsWithin p (slice_set a s (Some u))
within_given p a s u within free below = grind (arith, ltb-true, and_both, either, given)
