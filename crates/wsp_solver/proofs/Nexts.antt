-- The next user who passes, and what is known of the users between.
use Rattle.std.proofs.Common.{◌≡◌, ℕ, zero, suc, ◌+◌, ◌-◌, ◌<◌, ◌≤◌, Bool, true, false, nat_eq, List, [], sym, ap, subst, ◌∙◌, inl, inr, arith}
use Rattle.std.proofs.lemmas.Bool.{cases_eq, cases_lt, false≢true}
use Rattle.basics.proofs.Booleans.{eq_same}
use Rattle.constraint_forms.specs.Flags.{word_of}
use Rattle.refutation_tree.specs.Tree.{Kids, no_kids, tree_kid, twin_kid}
use Rattle.policy_book.specs.Laws.Plans.{Problem}
use Rattle.policy_book.specs.Laws.Refuting.{have_users, passing}
use Rattle.policy_book.specs.Laws.Twins.{are_twins}
use Rattle.certificate_check.specs.Walks.{AreUsersBelow}
use Rattle.wsp_solver.specs.Crews.{AreDutiesBelow, duties_of, has_steps}
use Rattle.wsp_solver.specs.Searches.{AreOfUsersBelow}
use Rattle.wsp_solver.proofs.Crews.{apart_by_duties}
use Rattle.wsp_solver.proofs.Searching.{users_skip, users_end}

-- nobody below n passes, nor n itself
pub none_more : (test : ℕ → Bool) (k n m : ℕ) → ((w : ℕ) → k ≤ w → w < n → test w ≡ false) → test n ≡ false → m ≡ n → (w : ℕ) → k ≤ w → w < m + 1 →
    test w ≡ false
none_more test k n m before here same w from below = grind (arith, cases_eq)

-- a user who has other steps is no twin
pub none_between : (p : Problem) (duties : List (List Bool)) (steps : List Bool) (u from v : ℕ) → AreDutiesBelow p duties → u < p.users → v ≤ u →
    steps ≡ duties_of duties u
    → ((w : ℕ) → 0 ≤ w → w < from → are_twins p [] w u ≡ false) → ((w : ℕ) → from ≤ w → w < v → has_steps duties steps w ≡ false)
    → (w : ℕ) → 0 ≤ w → w < v → are_twins p [] w u ≡ false
none_between p duties steps u from v right u_in within own before between w low below = elim (cases_lt w from) [
  | inl lt ↦ before w low lt
  | inr ge ↦
      apart_by_duties p duties w u (omega (arith, below, within, u_in)) u_in right
      (λ same. false≢true (sym (between w ge below) ∙ ap (λ d. nat_eq (word_of d) (word_of steps)) (same ∙ sym own) ∙ eq_same (word_of steps)))
]

skip_by : (test : ℕ → Bool) (from k n : ℕ) (front : Kids) → from + k ≤ n → ((v : ℕ) → from ≤ v → v < from + k → test v ≡ false)
    → AreOfUsersBelow test from n front → AreOfUsersBelow test (from + k) n front
skip_by test from zero n front within none so_far =
    let same : from ≡ from + zero = omega arith in
    subst (λ u. AreOfUsersBelow test u n front) same so_far
skip_by test from (suc k) n front within none so_far =
    let next : from + k + 1 ≡ from + suc k = omega arith in
    subst (λ u. AreOfUsersBelow test u n front) next
    (users_skip test (from + k) n front (omega (arith, within)) (none (from + k) (omega arith) (omega arith))
    (skip_by test from k n front (omega (arith, within)) (λ v h lt. none v h (omega (arith, lt))) so_far))

-- branches of those below a number who pass, where nobody passes from there to another one
pub users_skip_to : (test : ℕ → Bool) (from u n : ℕ) (front : Kids) → from ≤ u → u ≤ n → ((v : ℕ) → from ≤ v → v < u → test v ≡ false)
    → AreOfUsersBelow test from n front → AreOfUsersBelow test u n front
users_skip_to test from u n front on within none so_far =
    let is : from + (u - from) ≡ u = omega (arith, on) in
    subst (λ k. AreOfUsersBelow test k n front) is
    (skip_by test from (u - from) n front (omega (arith, is, within)) (λ v h lt. none v h (omega (arith, lt, is))) so_far)

-- nobody else passes
pub users_all : (test : ℕ → Bool) (from n : ℕ) (front : Kids) → from ≤ n → ((v : ℕ) → from ≤ v → v < n → test v ≡ false)
    → AreOfUsersBelow test from n front → have_users (passing test 0 n) front ≡ true
users_all test from n front on none so_far = users_end test n n front (omega arith) (users_skip_to test from n n front on (omega arith) none so_far)

-- branches of users below n are of users below any greater number
pub below_to : (n m : ℕ) (kids : Kids) → n ≤ m → AreUsersBelow n kids → AreUsersBelow m kids
below_to n m no_kids on h = tt
below_to n m (tree_kid u t kids) on h = (omega (arith, on, h.0), below_to n m kids on h.1)
below_to n m (twin_kid u v kids) on h = (omega (arith, on, h.0), below_to n m kids on h.1)
