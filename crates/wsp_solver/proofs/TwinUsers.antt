-- The users of branches that have trees, and twins among them.
use Rattle.std.proofs.Common.{if◌then◌else◌}
use Rattle.std.proofs.Common.{◌≡◌, refl, sym, ap, subst, ◌∙◌, ℕ, zero, suc, ◌+◌, ◌<◌, ◌≤◌, Bool, true, false, ◌&&◌, ◌||◌, ◌==◌, List, [], ◌∷◌, Option}
use Rattle.std.proofs.Common.{◌⊎◌, arith}
use Rattle.std.proofs.lemmas.Bool.{false≢true}
use Rattle.basics.proofs.Booleans.{and_both, eq_back, eq_is, not_true, or-false, or_cases, or_left, or_right}
use Rattle.refutation_tree.specs.Tree.{Shape, Kids, no_kids, tree_kid, twin_kid, joined}
use Rattle.refutation_tree.specs.Laws.Views.{kid_onto, kids_of_items}
use Rattle.refutation_tree.specs.declared.tree.Branch.{Branch}
use Rattle.refutation_tree.specs.declared.tree.Kid.{Kid}
use Rattle.refutation_tree.specs.declared.tree.Kid.TheVariants.{Tree as Tree_kid, Twin}
use Rattle.policy_book.specs.Laws.Plans.{Problem}
use Rattle.policy_book.specs.Laws.Refuting.{have_users, passing}
use Rattle.policy_book.specs.Laws.Twins.{are_related_alike, are_twins, has_no_step, has_twin, is_one_of, may_do_the_same}
use Rattle.certificate_check.specs.Walks.{AreUsersBelow, tree_users, kid_user_onto}
use Rattle.certificate_check.proofs.Assigned.{either}
use Rattle.certificate_check.proofs.TwinLaws.{twins_chain}
use Rattle.wsp_solver.specs.Crews.{IsFirstTwin}
use Rattle.wsp_solver.proofs.Crews.{twins_turned_same}
use Rattle.wsp_solver.specs.Lean.{kid_users}

-- branches as they are kept, and as pure data
pub kid_users-items : (bs : List Branch) (users : List ℕ) → kid_users users (kids_of_items bs) ≡ tree_users users bs
kid_users-items [] users = refl
kid_users-items (b ∷ bs) users = onto b.kid b.user (kids_of_items bs) users ∙ kid_users-items bs (kid_user_onto b.kid b.user users)
  where
    onto : (kid : Kid) (u : ℕ) (rest : Kids) (users : List ℕ) → kid_users users (kid_onto kid u rest) ≡ kid_users (kid_user_onto kid u users) rest
    onto (Tree_kid t) u rest users = refl
    onto (Twin v) u rest users = refl

pub twin_onto : (p : Problem) (a : List (Option ℕ)) (u : ℕ) (kid : Kid) (w : ℕ) (users : List ℕ) → has_twin
    p a u (kid_user_onto kid w users) ≡ (has_twin p a u (kid_user_onto kid w []) || has_twin p a u users)
twin_onto p a u kid w users = grind (arith, or-false)

-- a branch with a tree, whose user is a twin
pub twin_here : (p : Problem) (a : List (Option ℕ)) (u : ℕ) (kid : Kid) (w : ℕ) → has_twin p a u (kid_user_onto kid w []) ≡ true →
    (is_one_of (kid_user_onto kid w []) w ≡ true) × (are_twins p a u w ≡ true)
twin_here p a u kid w h = grind (arith, or_left, either, or_cases, false≢true)

pub user_here : (kid : Kid) (u x : ℕ) → is_one_of (kid_user_onto kid u []) x ≡ true → u ≡ x
user_here kid u x h = grind (arith, either, or_cases, eq_back, false≢true)

pub has_twin_from : (p : Problem) (a : List (Option ℕ)) (u v : ℕ) (users : List ℕ) → is_one_of users v ≡ true → are_twins p a u v ≡ true → has_twin
    p a u users ≡ true
has_twin_from p a u v [] among twins = absurd (false≢true among)
has_twin_from p a u v (w ∷ ws) among twins =
    either (or_cases (w == v) (is_one_of ws v) among)
    (λ here. or_left (are_twins p a u w) (has_twin p a u ws) (ap (are_twins p a u) (eq_back w v here) ∙ twins))
    (λ later. or_right (are_twins p a u w) (has_twin p a u ws) (has_twin_from p a u v ws later twins))

has_twin_find : (p : Problem) (a : List (Option ℕ)) (u : ℕ) (users : List ℕ) → has_twin p a u users ≡ true → (w : ℕ) × (is_one_of users w ≡ true) ×
    (are_twins p a u w ≡ true)
has_twin_find p a u [] h = absurd (false≢true h)
has_twin_find p a u (w ∷ ws) h =
    either (or_cases (are_twins p a u w) (has_twin p a u ws) h)
    (λ here. (w, or_left (w == w) (is_one_of ws w) (eq_here w), here))
    (λ later. let found = has_twin_find p a u ws later in (found.0, or_right (w == found.0) (is_one_of ws found.0) found.1, found.2))
  where
    eq_here : (n : ℕ) → (n == n) ≡ true
    eq_here n = grind arith

users_below : (n : ℕ) (kids : Kids) (users : List ℕ) (x : ℕ) → AreUsersBelow n kids → (is_one_of users x ≡ true → x < n) →
    is_one_of (kid_users users kids) x ≡ true → x < n
users_below n no_kids users x known before h = before h
users_below n (tree_kid u t kids) users x known before h =
    users_below n kids (u ∷ users) x known.1
    (λ e. either (or_cases (u == x) (is_one_of users x) e) (λ here. subst (λ y. y < n) (eq_back u x here) known.0) before) h
users_below n (twin_kid u v kids) users x known before h = users_below n kids users x known.1 before h

pub kid_user_below : (n : ℕ) (kids : Kids) (x : ℕ) → AreUsersBelow n kids → is_one_of (kid_users [] kids) x ≡ true → x < n
kid_user_below n kids x known h = users_below n kids [] x known (λ e. absurd (false≢true e)) h

-- a user who is the first twin has no twin among lower users
pub first_alone : (p : Problem) (a : List (Option ℕ)) (u : ℕ) (users : List ℕ) → IsFirstTwin p u u → ((w : ℕ) → is_one_of users w ≡ true → w < u) → has_twin
    p a u users ≡ false
first_alone p a u [] first low = refl
first_alone p a u (v ∷ vs) first low =
    ap (λ b. b || has_twin p a u vs) (not_true (are_twins p a u v) (apart v (low v (or_left (v == v) (is_one_of vs v) (eq_is v v refl)))))
    ∙ first_alone p a u vs first (λ w h. low w (or_right (v == w) (is_one_of vs w) h))
  where
    apart : (v : ℕ) → v < u → are_twins p a u v ≡ true → ⊥
    apart v below twins =
        let both = and_both (has_no_step a u && has_no_step a v) (may_do_the_same p u v && are_related_alike p u v) twins in
        false≢true (sym (first.least v below) ∙ twins_turned_same p v u ∙ both.1)

-- branches of ascending users stand before one of a greater user
pub earlier_below : (test : ℕ → Bool) (k n u : ℕ) (t : Shape) (rest front : Kids) →
    have_users (passing test k n) (joined front (tree_kid u t rest)) ≡ true → AreUsersBelow u front × (k ≤ u)
earlier_below test k zero u t rest no_kids h = absurd (false≢true h)
earlier_below test k zero u t rest (tree_kid v w front) h = absurd (false≢true h)
earlier_below test k zero u t rest (twin_kid v w front) h = absurd (false≢true h)
earlier_below test k (suc n) u t rest front h = at (test k) front h (λ f e. earlier_below test (k + 1) n u t rest f e)
  where
    at : (b : Bool) (f : Kids) → have_users (if b then k ∷ passing test (k + 1) n else passing test (k + 1) n) (joined f (tree_kid u t rest)) ≡ true →
        ((g : Kids) → have_users (passing test (k + 1) n) (joined g (tree_kid u t rest)) ≡ true → AreUsersBelow u g × (k + 1 ≤ u)) → AreUsersBelow u f ×
        (k ≤ u)
    at true no_kids e later =
        let both = and_both (k == u) (have_users (passing test (k + 1) n) rest) e in
        (tt, omega (arith, eq_back k u both.0))
    at true (tree_kid v w f) e later =
        let both = and_both (k == v) (have_users (passing test (k + 1) n) (joined f (tree_kid u t rest))) e in
        let more = later f both.1 in
        ((omega (arith, more.1, eq_back k v both.0), more.0), omega (arith, more.1))
    at true (twin_kid v w f) e later =
        let both = and_both (k == v) (have_users (passing test (k + 1) n) (joined f (tree_kid u t rest))) e in
        let more = later f both.1 in
        ((omega (arith, more.1, eq_back k v both.0), more.0), omega (arith, more.1))
    at false f e later = let more = later f e in (more.0, omega (arith, more.1))

-- a twin of a user who is one of some, or is a twin of one of them, is a twin of one of them
pub twin_of_covered : (p : Problem) (a : List (Option ℕ)) (u v : ℕ) (users : List ℕ) → u < p.users → v < p.users →
    ((w : ℕ) → is_one_of users w ≡ true → w < p.users) → are_twins p a u v ≡ true → (is_one_of users v ≡ true) ⊎ (has_twin p a v users ≡ true) → has_twin
    p a u users ≡ true
twin_of_covered p a u v users u_in v_in known twins h9 = grind (arith, has_twin_from, has_twin_find, twins_chain)
