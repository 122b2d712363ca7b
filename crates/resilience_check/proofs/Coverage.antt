-- A family with a whole plan for each ascending list covers every absence.
use Rattle.std.proofs.Common.{◌≡◌, ◌≢◌, refl, sym, ap, ◌∙◌, subst, ℕ, zero, suc, ◌+◌, ◌<◌, ◌≤◌, Bool, true, false, ◌||◌, ◌==◌, List, []}
use Rattle.std.proofs.Common.{◌∷◌, length, cond, eqb, ◌⊎◌, inl, inr, arith}
use Rattle.std.proofs.lemmas.Bool.{false≢true, eqb-true}
use Rattle.std.proofs.lemmas.Bool.Decides.{eqb_tells}
use Rattle.std.proofs.lemmas.List.Elements.{All-head, All-tail}
use Rattle.basics.proofs.Booleans.{or_cases, or_left, or_right}
use Rattle.constraint_forms.specs.Assign.{planned, no_steps, no_users}
use Rattle.policy_book.specs.Laws.Plans.{IsValidPlan, Problem}
use Rattle.policy_book.specs.Laws.Refuting.{passing}
use Rattle.policy_book.specs.Laws.Twins.{is_one_of}
use Rattle.certificate_check.proofs.Refuted.{passing-has}
use Rattle.resilience_check.specs.Left.{AreUsersInOrder, AreUsers}
use Rattle.resilience_check.specs.Lists.{AreFrom}
use Rattle.resilience_check.specs.Covering.{AreValidPlans, CoversAbsences, is_whole, leaves_some}
use Rattle.resilience_check.proofs.Leaving.{whole_fewer}

pub ascends_lower : (k n : ℕ) (us : List ℕ) → AreUsersInOrder (k + 1) n us → AreUsersInOrder k n us
ascends_lower k n [] h = tt
ascends_lower k n (u ∷ us) h = (omega (arith, h.0), h.1, h.2)

pub passing_ascends : (test : ℕ → Bool) (k n m : ℕ) → k + n ≡ m → AreUsersInOrder k m (passing test k n)
passing_ascends test k zero m e = tt
passing_ascends test k (suc n) m e = at (test k) (passing_ascends test (k + 1) n m (omega (arith, e)))
  where
    at : (b : Bool) → AreUsersInOrder (k + 1) m (passing test (k + 1) n)
        → AreUsersInOrder k m (cond b (k ∷ passing test (k + 1) n) (passing test (k + 1) n))
    at true rest = (omega arith, omega (arith, e), rest)
    at false rest = ascends_lower k m (passing test (k + 1) n) rest

passing_none : (k n : ℕ) → passing (λ _. false) k n ≡ []
passing_none k zero = refl
passing_none k (suc n) = passing_none (k + 1) n

-- one more may add one
past : (a : ℕ) (t : ℕ → Bool) (k n : ℕ) → a < k → length (passing (λ u. (a == u) || t u) k n) ≡ length (passing t k n)
past a t k zero low = refl
past a t k (suc n) low = at (eqb_tells a k) (past a t (k + 1) n (omega (arith, low)))
  where
    both : length (passing (λ u. (a == u) || t u) (k + 1) n) ≡ length (passing t (k + 1) n) → (b : Bool)
        → length (cond b (k ∷ passing (λ u. (a == u) || t u) (k + 1) n) (passing (λ u. (a == u) || t u) (k + 1) n)) ≡ length
        (cond b (k ∷ passing t (k + 1) n) (passing t (k + 1) n))
    both rest true = ap suc rest
    both rest false = rest

    at : ((eqb a k ≡ true) × (a ≡ k)) ⊎ ((eqb a k ≡ false) × (a ≢ k))
        → length (passing (λ u. (a == u) || t u) (k + 1) n) ≡ length (passing t (k + 1) n)
        → length (passing (λ u. (a == u) || t u) k (suc n)) ≡ length (passing t k (suc n))
    at (inl same) rest = absurd (omega (arith, low, same.1))
    at (inr apart) rest = ap (λ b. length (cond (b || t k) (k ∷ passing (λ u. (a == u) || t u) (k + 1) n)
        (passing (λ u. (a == u) || t u) (k + 1) n))) apart.0 ∙ both rest (t k)

one_more : (a : ℕ) (t : ℕ → Bool) (k n : ℕ) → length (passing (λ u. (a == u) || t u) k n) ≤ suc (length (passing t k n))
one_more a t k zero = omega arith
one_more a t k (suc n) = at (eqb_tells a k) (one_more a t (k + 1) n)
  where
    grown : (b : Bool) → length (passing t (k + 1) n) ≤ length (cond b (k ∷ passing t (k + 1) n) (passing t (k + 1) n))
    grown true = omega arith
    grown false = omega arith

    first : a ≡ k → length (cond (true || t k) (k ∷ passing (λ u. (a == u) || t u) (k + 1) n) (passing (λ u. (a == u) || t u) (k + 1) n)) ≤ suc
        (length (cond (t k) (k ∷ passing t (k + 1) n) (passing t (k + 1) n)))
    first same = let rest = past a t (k + 1) n (omega (arith, same)) in let more = grown (t k) in omega (arith, rest, more)

    both : length (passing (λ u. (a == u) || t u) (k + 1) n) ≤ suc (length (passing t (k + 1) n)) → (b : Bool)
        → length (cond b (k ∷ passing (λ u. (a == u) || t u) (k + 1) n) (passing (λ u. (a == u) || t u) (k + 1) n)) ≤ suc
        (length (cond b (k ∷ passing t (k + 1) n) (passing t (k + 1) n)))
    both rest true = omega (arith, rest)
    both rest false = rest

    at : ((eqb a k ≡ true) × (a ≡ k)) ⊎ ((eqb a k ≡ false) × (a ≢ k))
        → length (passing (λ u. (a == u) || t u) (k + 1) n) ≤ suc (length (passing t (k + 1) n))
        → length (passing (λ u. (a == u) || t u) k (suc n)) ≤ suc (length (passing t k (suc n)))
    at (inl same) rest = subst (λ b. length (cond (b || t k) (k ∷ passing (λ u. (a == u) || t u) (k + 1) n)
        (passing (λ u. (a == u) || t u) (k + 1) n)) ≤ suc (length (passing t k (suc n)))) (sym same.0) (first same.1)
    at (inr apart) rest = subst (λ b. length (cond (b || t k) (k ∷ passing (λ u. (a == u) || t u) (k + 1) n)
        (passing (λ u. (a == u) || t u) (k + 1) n)) ≤ suc (length (passing t k (suc n)))) (sym apart.0) (both rest (t k))

-- each user once: no more than the list has
pub passing_few : (absent : List ℕ) (k n : ℕ) → length (passing (is_one_of absent) k n) ≤ length absent
passing_few [] k n = let none = ap length (passing_none k n) in omega (arith, none)
passing_few (a ∷ absent) k n =
    let rest = passing_few absent k n in
    let more = one_more a (is_one_of absent) k n in
    omega (arith, rest, more)

-- of a family of valid plans only users of the policy matter
pub leaves_known : (p : Problem) (plans : List (List ℕ)) (a b : List ℕ) → AreValidPlans p plans
    → ((u : ℕ) → u < p.users → is_one_of a u ≡ true → is_one_of b u ≡ true) → leaves_some plans b ≡ true → leaves_some plans a ≡ true
leaves_known p [] a b valid fewer h = absurd (false≢true h)
leaves_known p (plan ∷ plans) a b valid fewer h = elim (or_cases (is_whole b plan) (leaves_some plans b) h) [
  | inl here ↦
      let first = All-head (IsValidPlan p no_users no_steps) plan plans valid in
      or_left (is_whole a plan) (leaves_some plans a)
      (whole_fewer plan a b (λ s below one. fewer (planned plan s) (first.known s (subst (λ n. s < n) first.whole below)) one) here)
  | inr later ↦ or_right (is_whole a plan) (leaves_some plans a) (leaves_known p plans a b
      (All-tail (IsValidPlan p no_users no_steps) plan plans valid) fewer later)
]

pub covers_by : (p : Problem) (plans : List (List ℕ)) (t : ℕ) → AreValidPlans p plans
    → ((other : List ℕ) → AreUsersInOrder 0 p.users other → length other ≤ t → leaves_some plans other ≡ true) → CoversAbsences plans t
covers_by p plans t valid each absent few =
    let other = passing (is_one_of absent) 0 p.users in
    let short = passing_few absent 0 p.users in
    leaves_known p plans absent other valid (λ u below one. passing-has (is_one_of absent) u one 0 p.users (omega arith) (omega (arith, below)))
    (each other (passing_ascends (is_one_of absent) 0 p.users p.users (omega arith)) (omega (arith, short, few)))

-- users who ascend from a number on are numbered from it on
pub ascends_from : (k n : ℕ) (us : List ℕ) → AreUsersInOrder k n us → AreFrom k us
ascends_from k n [] h w one = absurd (false≢true one)
ascends_from k n (u ∷ us) h w one = elim (or_cases (u == w) (is_one_of us w) one) [
  | inl same ↦ let is = eqb-true u w same in let low = h.0 in omega (arith, is, low)
  | inr later ↦ let low = h.0 in let rest = ascends_from (u + 1) n us h.2 w later in omega (arith, low, rest)
]

-- and below the other number
pub ascends_below : (k n : ℕ) (us : List ℕ) → AreUsersInOrder k n us → AreUsers n us
ascends_below k n [] h w one = absurd (false≢true one)
ascends_below k n (u ∷ us) h w one = elim (or_cases (u == w) (is_one_of us w) one) [
  | inl same ↦ subst (λ x. x < n) (eqb-true u w same) h.1
  | inr later ↦ ascends_below (u + 1) n us h.2 w later
]
