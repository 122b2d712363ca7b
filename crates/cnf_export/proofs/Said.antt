-- A model that says a valid plan is a model of the clauses.
use Rattle.std.proofs.Common.{◌≡◌, ◌≢◌, refl, sym, ap, subst, ◌∙◌, ℕ, zero, suc, ◌+◌, ◌-◌, ◌<◌, ◌≤◌, Bool, true, false, not, ◌&&◌, ◌||◌, ◌==◌, nat_le, cond}
use Rattle.std.proofs.Common.{eqb, List, [], ◌∷◌, ◌++◌, map, length, nat_lt, ◌*◌, Option, Some, slice_get, ◌⊎◌, inl, inr, arith}
use Rattle.std.specs.List.{flat_map, AllByRecursion as Every}
use Rattle.std.specs.Prelude.{ℤ}
use Rattle.std.proofs.lemmas.Bool.{false≢true, eqb-true}
use Rattle.std.proofs.lemmas.Bool.Decides.{eqb_tells}
use Rattle.std.proofs.lemmas.List.Elements.{All-from_recursion}
use Rattle.basics.proofs.Booleans.{and_both, and_from, bool_cases, differ, eq_is, eq_same, le_back, lt_no, lt_yes, not_true, not_yes, or_cases, or_left}
use Rattle.basics.proofs.Booleans.{or_right}
use Rattle.constraint_forms.specs.declared.rule.Rule.{Rule}
use Rattle.constraint_forms.specs.declared.rule.Rule.TheVariants as rule
use Rattle.constraint_forms.specs.Assign.{is_member, planned, user_at}
use Rattle.constraint_forms.specs.Rules.{all_from, any_from, different, is_satisfied, names, turned, users_from}
use Rattle.constraint_forms.proofs.RuleLaws.{first-named, second-named, step-named, member-named}
use Rattle.policy_book.specs.Laws.Facts.{HasMembers, IsWithinGroup}
use Rattle.policy_book.specs.Laws.Plans.{AreAssigned, IsValidPlan, Problem}
use Rattle.policy_book.specs.Laws.Refuting.{passing}
use Rattle.cnf_export.specs.Laws.Clauses.{is_true, no_to, satisfies, yes_to}
use Rattle.cnf_export.specs.Laws.Encodings.{Encoding, blocks, clause, clauses_of, counts, encoding_of, group_clauses, groups, has, has_by, height, may_be}
use Rattle.cnf_export.specs.Laws.Encodings.{part_items}
use Rattle.cnf_export.specs.Laws.Encodings.{count_rows, members, numbers, once_clause, once_items, part_clauses, parts, rule_groups, rules_groups, step_blocks}
use Rattle.cnf_export.specs.Laws.Encodings.{step_groups, takes}
use Rattle.cnf_export.specs.Laws.Encodings.{taking_clause, users_who}
use Rattle.cnf_export.specs.Models.{PlansAreModels, SaysCount, SaysPlan, SaysRule, SaysRules, has_some}
use Rattle.cnf_export.specs.declared.group.Group.{Group}
use Rattle.cnf_export.specs.declared.group.Group.TheVariants.{Outside, Someone, Once, Pair, SomeOf, Taking, Counting, Ending}
use Rattle.wf_names.specs.UserSets.{count_below}
use Rattle.cnf_export.proofs.Among.{among_from, different_counted, member_among}
use Rattle.cnf_export.proofs.Counters.{IsCounter, same_counter}
use Rattle.cnf_export.specs.Terms.{pair_group, pair_group_at}
use Rattle.cnf_export.proofs.CountClauses.{climbs, first_more_rows, follows, item_clause, meets, more_rows, owes}
use Rattle.cnf_export.proofs.Steps.{GroupHolds, Holds, less_one}

-- ---- what is true of each part is true of the whole

joined : {X : Type 0} (P : X → Type 0) (xs ys : List X) → Every P xs → Every P ys → Every P (xs ++ ys)
joined P [] ys h k = k
joined P (x ∷ xs) ys h k = (h.0, joined P xs ys h.1 k)

flat_from : {X A : Type 0} (P : A → Type 0) (f : X → List A) (xs : List X) → Every (λ x. Every P (f x)) xs → Every P (flat_map f xs)
flat_from P f [] h = tt
flat_from P f (x ∷ xs) h = joined P (f x) (flat_map f xs) h.0 (flat_from P f xs h.1)

map_from : {X A : Type 0} (P : A → Type 0) (f : X → A) (xs : List X) → Every (λ x. P (f x)) xs → Every P (map f xs)
map_from P f [] h = tt
map_from P f (x ∷ xs) h = (h.0, map_from P f xs h.1)

numbers_from : (P : ℕ → Type 0) (k n : ℕ) → ((i : ℕ) → k ≤ i → i < k + n → P i) → Every P (numbers k n)
numbers_from P k zero each = tt
numbers_from P k (suc n) each = (each k (omega arith) (omega arith), numbers_from P (k + 1) n (λ i low high. each i (omega (arith, low)) (omega (arith, high))))

passing_from : (P : ℕ → Type 0) (test : ℕ → Bool) (k n : ℕ) → ((v : ℕ) → k ≤ v → v < k + n → test v ≡ true → P v) → Every P (passing test k n)
passing_from P test k zero each = tt
passing_from P test k (suc n) each =
    grind (arith, (passing_from P test (k + 1) n (λ v low high passes. each v (omega (arith, low)) (omega (arith, high)) passes)))

-- ---- clauses that are satisfied

listed_from : (m : ℕ → Bool) (g : ℕ → ℕ) (test : ℕ → Bool) (k n v : ℕ) → k ≤ v → v < k + n → test v ≡ true → m (g v) ≡ true →
    satisfies m (map (λ u. yes_to (g u)) (passing test k n)) ≡ true
listed_from m g test k zero v low high passes one = absurd (omega (arith, low, high))
listed_from m g test k (suc n) v low high passes one =
    at (test k) refl (eqb_tells k v) (λ apart. listed_from m g test (k + 1) n v (omega (arith, low, apart)) (omega (arith, high)) passes one)
  where
    at : (b : Bool) → test k ≡ b →
        ((eqb k v ≡ true) × (k ≡ v)) ⊎ ((eqb k v ≡ false) × (k ≢ v)) → (k ≢ v → satisfies m (map (λ u. yes_to (g u)) (passing test (k + 1) n)) ≡ true) →
        satisfies m (map (λ u. yes_to (g u)) (cond b (k ∷ passing test (k + 1) n) (passing test (k + 1) n))) ≡ true
    at true is (inl same) later =
        or_left (m (g k)) (satisfies m (map (λ u. yes_to (g u)) (passing test (k + 1) n))) (subst (λ w. m (g w) ≡ true) (sym same.1) one)
    at true is (inr apart) later = or_right (m (g k)) (satisfies m (map (λ u. yes_to (g u)) (passing test (k + 1) n))) (later apart.1)
    at false is (inl same) later = absurd (false≢true (sym is ∙ ap test same.1 ∙ passes))
    at false is (inr apart) later = later apart.1

left_satisfied : (m : ℕ → Bool) (xs ys : List ℤ) → satisfies m xs ≡ true → satisfies m (xs ++ ys) ≡ true
left_satisfied m [] ys h = absurd (false≢true h)
left_satisfied m (l ∷ xs) ys h = elim (or_cases (is_true m l) (satisfies m xs) h) [
  | inl here ↦ or_left (is_true m l) (satisfies m (xs ++ ys)) here
  | inr later ↦ or_right (is_true m l) (satisfies m (xs ++ ys)) (left_satisfied m xs ys later)
]

right_satisfied : (m : ℕ → Bool) (xs ys : List ℤ) → satisfies m ys ≡ true → satisfies m (xs ++ ys) ≡ true
right_satisfied m [] ys h = h
right_satisfied m (l ∷ xs) ys h = or_right (is_true m l) (satisfies m (xs ++ ys)) (right_satisfied m xs ys h)

joined_satisfied : (m : ℕ → Bool) (f : ℕ → List ℤ) (test : ℕ → Bool) (k n t : ℕ) → k ≤ t → t < k + n → test t ≡ true → satisfies m (f t) ≡ true →
    satisfies m (flat_map f (passing test k n)) ≡ true
joined_satisfied m f test k zero t low high passes one = absurd (omega (arith, low, high))
joined_satisfied m f test k (suc n) t low high passes one =
    at (test k) refl (eqb_tells k t) (λ apart. joined_satisfied m f test (k + 1) n t (omega (arith, low, apart)) (omega (arith, high)) passes one)
  where
    at : (b : Bool) →
        test k ≡ b → ((eqb k t ≡ true) × (k ≡ t)) ⊎ ((eqb k t ≡ false) × (k ≢ t)) → (k ≢ t → satisfies m (flat_map f (passing test (k + 1) n)) ≡ true) →
        satisfies m (flat_map f (cond b (k ∷ passing test (k + 1) n) (passing test (k + 1) n))) ≡ true
    at true is (inl same) later = left_satisfied m (f k) (flat_map f (passing test (k + 1) n)) (subst (λ w. satisfies m (f w) ≡ true) (sym same.1) one)
    at true is (inr apart) later = right_satisfied m (f k) (flat_map f (passing test (k + 1) n)) (later apart.1)
    at false is (inl same) later = absurd (false≢true (sym is ∙ ap test same.1 ∙ passes))
    at false is (inr apart) later = later apart.1

-- unless a variable is there, the rest is not wanted
unless : (m : ℕ → Bool) (v : ℕ) (ls : List ℤ) → (m v ≡ true → satisfies m ls ≡ true) → satisfies m (no_to v ∷ ls) ≡ true
unless m v ls then = grind (arith, bool_cases, or_right, or_left)

one_is : (m : ℕ → Bool) (v : ℕ) → m v ≡ true → satisfies m (yes_to v ∷ []) ≡ true
one_is m v one = or_left (m v) false one

none_is : (m : ℕ → Bool) (v : ℕ) → m v ≡ false → satisfies m (no_to v ∷ []) ≡ true
none_is m v none = or_left (not (m v)) false (ap not none)

-- ---- groups

parts_from : (e : Encoding) (m : ℕ → Bool) (g : Group) → ((i : ℕ) → i < parts e g → Every (λ k. Holds m (clause e g i k)) (part_items e g i)) → GroupHolds e m g
parts_from e m g each = flat_from (Holds m) (part_clauses e g) (numbers 0 (parts e g)) (numbers_from (λ i. Every (Holds m) (part_clauses e g i)) 0 (parts e g)
    (λ i low high. map_from (Holds m) (clause e g i) (part_items e g i) (each i (omega (arith, high)))))

-- where a group that ends a count has a part there are users
some_part : (n i : ℕ) → i < cond (n == 0) 0 1 → 0 < n
some_part n i only = grind arith

back_on : (b z c : Bool) → c ≡ (b || z) → (not b || (c || false)) ≡ true
back_on b z c same = grind (arith, or_right, false≢true)

back_meets : (b z d c : Bool) → c ≡ (b || (z && d)) → (not z || (not d || (c || false))) ≡ true
back_meets b z d c same = grind (arith, false≢true)

back_more : (b z d c : Bool) → c ≡ (b || (z && d)) → ((not c || (b || (z || false))) ≡ true) × ((not c || (b || (d || false))) ≡ true)
back_more b z d c same = grind (arith, false≢true)

from_said : (m : ℕ → Bool) {c d : List ℤ} → c ≡ d → Holds m d → Holds m c
from_said m same h = subst (λ x. satisfies m x ≡ true) (sym same) h

counter_rows : (e : Encoding) (m : ℕ → Bool) (block : ℕ) (most : Bool) (limit : ℕ) →
    IsCounter (λ w. m (takes e block w)) (λ v j. m (counts e block (height most limit) v j)) e.users (height most limit) →
    (u j : ℕ) → u < e.users → j < height most limit → Every (λ row. Holds m (clause e (Counting block most limit) u (4 * j + row))) (count_rows u j)
counter_rows e m block most limit is zero zero below less = grind arith
counter_rows e m block most limit is zero (suc j) below less = grind (arith, first_more_rows, from_said, item_clause, or_left, none_is)
counter_rows e m block most limit is (suc u) zero below less = grind arith
counter_rows e m block most limit is (suc u) (suc j) below less =
    grind (arith, more_rows, from_said, item_clause, climbs, back_on, meets, back_meets, owes, back_more, follows)

counter_holds : (e : Encoding) (m : ℕ → Bool) (block : ℕ) (most : Bool) (limit : ℕ) → IsCounter (λ w. m (takes e block w))
    (λ v j. m (counts e block (height most limit) v j)) e.users (height most limit) → GroupHolds e m (Counting block most limit)
counter_holds e m block most limit is = parts_from e m (Counting block most limit) (λ u below.
    flat_from (λ k. Holds m (clause e (Counting block most limit) u k)) (λ j. map (λ row. 4 * j + row) (count_rows u j)) (numbers 0 (height most limit))
    (numbers_from (λ j. Every (λ k. Holds m (clause e (Counting block most limit) u k)) (map (λ row. 4 * j + row) (count_rows u j))) 0 (height most limit)
    (λ j low high.
    map_from (λ k. Holds m (clause e (Counting block most limit) u k)) (λ row. 4 * j + row) (count_rows u j)
    (counter_rows e m block most limit is u j below (omega (arith, high))))))

-- a plan for all steps, of users who may have them
pub record Fits (e : Encoding) (plan : List ℕ) : Type 0 where
  pub below : (s : ℕ) → s < e.steps → planned plan s < e.users
  pub may : (s : ℕ) → s < e.steps → e.may_have s (planned plan s) ≡ true

module _ (e : Encoding) (rules : List Rule) (m : ℕ → Bool) (plan : List ℕ) (fits : Fits e plan) (says : SaysPlan e rules m plan) where
  whose : (s u : ℕ) → s < e.steps → u < e.users → m (has e s u) ≡ true → planned plan s ≡ u
  whose s u within below one = eqb-true (planned plan s) u (sym (says.has_it s u within below) ∙ one)

  nobody : (s u : ℕ) → s < e.steps → u < e.users → (planned plan s ≡ u → ⊥) → m (has e s u) ≡ false
  nobody s u within below other = not_true (m (has e s u)) (λ one. other (whose s u within below one))

  outside : (s : ℕ) → s < e.steps → GroupHolds e m (Outside s)
  outside s within = parts_from e m (Outside s)
      (λ i only. passing_from (λ u. Holds m (clause e (Outside s) i u)) (λ u. not (e.may_have s u)) 0 e.users (λ u low high no_one.
      none_is m (has e s u) (nobody s u within (omega (arith, high))
      (λ same. differ (e.may_have s u) (subst (λ w. e.may_have s w ≡ true) same (fits.may s within)) (not_yes (e.may_have s u) no_one)))))

  someone : (s : ℕ) → s < e.steps → GroupHolds e m (Someone s)
  someone s within = parts_from e m (Someone s) (λ i only. (
    listed_from m (has e s) (e.may_have s) 0 e.users (planned plan s) (omega arith) (let below = fits.below s within in omega (arith, below))
        (fits.may s within)
        (says.has_it s (planned plan s) within (fits.below s within) ∙ eq_same (planned plan s)),
    tt,
  ))

  has_then : (s u : ℕ) → s < e.steps → u < e.users → satisfies m (no_to (has e s u) ∷ yes_to (has_by e s u) ∷ []) ≡ true
  has_then s u within below = grind (arith, unless, one_is, whose)

  once_part : (s u : ℕ) → s < e.steps → u < e.users → Every (λ k. Holds m (once_clause e s u k)) (once_items u)
  once_part s u within below = grind (arith, has_then, less_one, unless, one_is, none_is, whose)

  once : (s : ℕ) → s < e.steps → GroupHolds e m (Once s)
  once s within = parts_from e m (Once s) (λ u below. once_part s u within below)

  pairs : (rho s t : ℕ) → s < e.steps → t < e.steps → e.related rho (planned plan s) (planned plan t) ≡ true → GroupHolds e m (Pair rho s t)
  pairs rho s t first second related = parts_from e m (Pair rho s t) (λ u below. row u below (e.may_have s u))
    where
      row : (u : ℕ) → u < e.users → (b : Bool) →
          Every (λ k. Holds m (clause e (Pair rho s t) u k)) (cond b (users_who e (λ v. e.may_have t v && not (e.related rho u v))) [])
      row u below true =
          passing_from (λ k. Holds m (clause e (Pair rho s t) u k)) (λ v. e.may_have t v && not (e.related rho u v)) 0 e.users (λ v low high both.
          unless m (has e s u) (no_to (has e t v) ∷ []) (λ one. none_is m (has e t v) (nobody t v second (omega (arith, high)) (λ same.
          differ (e.related rho u v)
          (subst (λ w. e.related rho u w ≡ true) same (subst (λ w. e.related rho w (planned plan t) ≡ true) (whose s u first below one) related))
          (not_yes (e.related rho u v) (and_both (e.may_have t v) (not (e.related rho u v)) both).1)))))
      row u below false = tt

  some_of : (rho : ℕ) (back : Bool) (group : List Bool) (s x : ℕ) → s < e.steps → x < e.steps → x < length group → is_member group x ≡ true →
      turned back e.related rho (planned plan x) (planned plan s) ≡ true → GroupHolds e m (SomeOf rho back group s)
  some_of rho back group s x within inside among member related = parts_from e m (SomeOf rho back group s)
      (λ i only. passing_from (λ v. Holds m (clause e (SomeOf rho back group s) i v)) (e.may_have s) 0 e.users (λ v low high may.
      unless
      m (has e s v) (flat_map (λ t. map (λ u. yes_to (has e t u)) (users_who e (λ u. e.may_have t u && turned back e.related rho u v))) (members group))
      (λ one. joined_satisfied m (λ t. map (λ u. yes_to (has e t u)) (users_who e (λ u. e.may_have t u && turned back e.related rho u v)))
      (is_member group) 0 (length group) x (omega arith) (omega (arith, among)) member
      (listed_from m (has e x) (λ u. e.may_have x u && turned back e.related rho u v) 0 e.users (planned plan x) (omega arith)
      (let below = fits.below x inside in omega (arith, below))
      (and_from (e.may_have x (planned plan x)) (turned back e.related rho (planned plan x) v) (fits.may x inside)
      (subst (λ w. turned back e.related rho (planned plan x) w ≡ true) (whose s v within (omega (arith, high)) one) related))
      (says.has_it x (planned plan x) inside (fits.below x inside) ∙ eq_same (planned plan x))))))

  -- ---- rules that count

  taking : (block high : ℕ) (group : List Bool) → ((x : ℕ) → is_member group x ≡ true → x < e.steps) → SaysCount e m plan block high group →
      GroupHolds e m (Taking block group)
  taking block high group within count = parts_from e m (Taking block group) (λ u below.
      joined (λ k. Holds m (taking_clause e block group u k)) (map (λ t. suc t) (members group)) (0 ∷ [])
      (map_from (λ k. Holds m (taking_clause e block group u k)) (λ t. suc t) (members group)
      (passing_from (λ t. Holds m (taking_clause e block group u (suc t))) (is_member group) 0 (length group) (λ t low high_t member.
      unless m (has e t u) (yes_to (takes e block u) ∷ []) (λ one. one_is m (takes e block u)
      (count.taken u below ∙ among_from 0 group (planned plan) t t u member (omega arith) (whose t u (within t member) below one))))))
      (closed u below, tt))
    where
      closed : (u : ℕ) → u < e.users → Holds m (taking_clause e block group u 0)
      closed u below = unless m (takes e block u) (map (λ t. yes_to (has e t u)) (members group)) (λ one.
          let member = member_among 0 group (planned plan) u (sym (count.taken u below) ∙ one) in
          let same : member.at ≡ member.place = let place = member.same in omega (arith, place) in
          let user : planned plan member.at ≡ u = ap (planned plan) same ∙ member.user in
          listed_from m (λ t. has e t u) (is_member group) 0 (length group) member.at (omega arith) (let high_at = member.below in omega (arith, high_at))
          member.member
          (says.has_it member.at u (within member.at member.member) below ∙ eq_is (planned plan member.at) u user))

  counting : (block : ℕ) (most : Bool) (limit : ℕ) (group : List Bool) → SaysCount e m plan block (height most limit) group →
      GroupHolds e m (Counting block most limit)
  counting block most limit group count =
      counter_holds e m block most limit (same_counter (has_some group plan) (λ w. m (takes e block w)) (λ v j. m (counts e block (height most limit) v j))
      e.users (height most limit) count.taken count.counted)

  -- all users of a group count
  all_counted : (group : List Bool) → ((x : ℕ) → is_member group x ≡ true → x < e.steps) →
      count_below e.users (has_some group plan) ≡ different (users_from 0 group (λ s. Some (planned plan s)))
  all_counted group within = sym (different_counted e.users (users_from 0 group (λ s. Some (planned plan s))) (λ w one.
      let member = member_among 0 group (planned plan) w one in
      let same : member.at ≡ member.place = let place = member.same in omega (arith, place) in
      subst (λ v. v < e.users) (ap (planned plan) same ∙ member.user) (fits.below member.at (within member.at member.member))))

  counted_last : (block high : ℕ) (group : List Bool) → ((x : ℕ) → is_member group x ≡ true → x < e.steps) → SaysCount e m plan block high group →
      0 < high → 0 < e.users →
      m (counts e block high (e.users - 1) (high - 1)) ≡ nat_lt (high - 1) (different (users_from 0 group (λ s. Some (planned plan s))))
  counted_last block high group within count some users = grind (arith, all_counted)

  most_ends : (block limit : ℕ) (group : List Bool) → ((x : ℕ) → is_member group x ≡ true → x < e.steps) → SaysCount e m plan block (height true limit)
      group → nat_le (different (users_from 0 group (λ s. Some (planned plan s)))) limit ≡ true → GroupHolds e m (Ending block true limit)
  most_ends block limit group within count obeyed = grind (arith, parts_from, some_part, le_back, none_is, counted_last, lt_no)

  least_ends : (block limit : ℕ) (group : List Bool) → ((x : ℕ) → is_member group x ≡ true → x < e.steps) → IsWithinGroup limit group →
      SaysCount e m plan block (height false limit) group → nat_le limit (different (users_from 0 group (λ s. Some (planned plan s)))) ≡ true →
      GroupHolds e m (Ending block false limit)
  least_ends block limit group within some count obeyed = grind (arith, parts_from, some_part, le_back, one_is, counted_last, lt_yes)

-- ---- members

member_of_all : (k : ℕ) (group : List Bool) (p : ℕ → Bool) → all_from k group p ≡ true → (x y : ℕ) → is_member group x ≡ true → y ≡ k + x → p y ≡ true
member_of_all k [] p h x y one same = absurd (false≢true one)
member_of_all k (b ∷ bs) p h zero y one same = grind (arith, or_cases, and_both, differ, not_yes)
member_of_all k (b ∷ bs) p h (suc x) y one same = member_of_all (k + 1) bs p (and_both (not b || p k) (all_from (k + 1) bs p) h).1 x y one (omega (arith, same))

some_member : (k : ℕ) (group : List Bool) (p : ℕ → Bool) → any_from k group p ≡ true → (x : ℕ) × (x < length group) × (is_member group x ≡ true) ×
    (p (k + x) ≡ true)
some_member k [] p h = absurd (false≢true h)
some_member k (b ∷ bs) p h = elim (or_cases (b && p k) (any_from (k + 1) bs p) h) [
  | inl here ↦ let both = and_both b (p k) here in let same : k ≡ k + 0 = omega arith in (0, omega arith, both.0, subst (λ z. p z ≡ true) same both.1)
  | inr later ↦ let rest = some_member (k + 1) bs p later in let same : k + 1 + rest.0 ≡ k + suc rest.0 = omega arith in let below = rest.1 in
      (suc rest.0, omega (arith, below), rest.2, subst (λ z. p z ≡ true) same rest.3)
]

all_pairs : (e : Encoding) (rules : List Rule) (m : ℕ → Bool) (plan : List ℕ) → Fits e plan → SaysPlan e rules m plan →
    (back : Bool) (rho : ℕ) (group : List Bool) (s : ℕ) → ((x : ℕ) → is_member group x ≡ true → x < e.steps) → s < e.steps →
    all_from 0 group (λ x. turned back e.related rho (planned plan x) (planned plan s)) ≡ true →
    Every (GroupHolds e m) (map (pair_group_at back rho s) (members group))
all_pairs e rules m plan fits says back rho group s within inside obeyed =
    map_from (GroupHolds e m) (pair_group_at back rho s) (members group)
    (passing_from (λ x. GroupHolds e m (pair_group back rho x s)) (is_member group) 0 (length group) (λ x low high one.
    at back x (within x one) (member_of_all 0 group (λ y. turned back e.related rho (planned plan y) (planned plan s)) obeyed x x one (omega arith))))
  where
    at : (b : Bool) (x : ℕ) → x < e.steps → turned b e.related rho (planned plan x) (planned plan s) ≡ true → GroupHolds e m (pair_group b rho x s)
    at false x there related = pairs e rules m plan fits says rho x s there inside related
    at true x there related = pairs e rules m plan fits says rho s x inside there related

some_pairs : (e : Encoding) (rules : List Rule) (m : ℕ → Bool) (plan : List ℕ) → Fits e plan → SaysPlan e rules m plan →
    (back : Bool) (rho : ℕ) (group : List Bool) (s : ℕ) → ((x : ℕ) → is_member group x ≡ true → x < e.steps) → s < e.steps →
    any_from 0 group (λ x. turned back e.related rho (planned plan x) (planned plan s)) ≡ true → GroupHolds e m (SomeOf rho back group s)
some_pairs e rules m plan fits says back rho group s within inside obeyed =
    let one = some_member 0 group (λ y. turned back e.related rho (planned plan y) (planned plan s)) obeyed in
    let same : 0 + one.0 ≡ one.0 = omega arith in
    some_of e rules m plan fits says rho back group s one.0 inside (within one.0 one.2) one.1 one.2
    (subst (λ z. turned back e.related rho (planned plan z) (planned plan s) ≡ true) same one.3)

rule_holds : (e : Encoding) (rules : List Rule) (m : ℕ → Bool) (plan : List ℕ) → Fits e plan → SaysPlan e rules m plan → (block : ℕ) (r : Rule) →
    ((s : ℕ) → names r s ≡ true → s < e.steps) → HasMembers r →
    SaysRule e m plan block r → is_satisfied e.related r (planned plan) ≡ true → Every (GroupHolds e m) (rule_groups block r)
rule_holds e rules m plan fits says block (rule.Pair rho s t) within some count obeyed =
    (pairs e rules m plan fits says rho s t (within s (first-named rho s t)) (within t (second-named rho s t)) obeyed, tt)
rule_holds e rules m plan fits says block (rule.AllOf rho group s) within some count obeyed =
    all_pairs e rules m plan fits says false rho group s (λ x one. within x (member-named rho group s x one)) (within s (step-named rho group s)) obeyed
rule_holds e rules m plan fits says block (rule.SomeOf rho group s) within some count obeyed =
    (some_pairs e rules m plan fits says false rho group s (λ x one. within x (member-named rho group s x one)) (within s (step-named rho group s)) obeyed, tt)
rule_holds e rules m plan fits says block (rule.AllTo rho s group) within some count obeyed =
    all_pairs e rules m plan fits says true rho group s (λ x one. within x (member-named rho group s x one)) (within s (step-named rho group s)) obeyed
rule_holds e rules m plan fits says block (rule.SomeTo rho s group) within some count obeyed =
    (some_pairs e rules m plan fits says true rho group s (λ x one. within x (member-named rho group s x one)) (within s (step-named rho group s)) obeyed, tt)
rule_holds e rules m plan fits says block (rule.AtMost limit group) within some count obeyed = (
  taking e rules m plan fits says block (height true limit) group within count,
  (counting e rules m plan fits says block true limit group count, (most_ends e rules m plan fits says block limit group within count obeyed, tt)),
)
rule_holds e rules m plan fits says block (rule.AtLeast limit group) within some count obeyed = (
  taking e rules m plan fits says block (height false limit) group within count,
  (
    counting e rules m plan fits says block false limit group count,
    (least_ends e rules m plan fits says block limit group within some count obeyed, tt),
  ),
)

rules_hold : (e : Encoding) (all : List Rule) (m : ℕ → Bool) (plan : List ℕ) → Fits e plan → SaysPlan e all m plan → (block : ℕ) (rules : List Rule) →
    ((k : ℕ) (r : Rule) → slice_get rules k ≡ Some r → ((s : ℕ) → names r s ≡ true → s < e.steps) ×
    (HasMembers r × (is_satisfied e.related r (planned plan) ≡ true))) →
    SaysRules e m plan block rules → Every (GroupHolds e m) (rules_groups block rules)
rules_hold e all m plan fits says block [] each count = tt
rules_hold e all m plan fits says block (r ∷ rules) each count =
    let here = each 0 r refl in
    joined (GroupHolds e m) (rule_groups block r) (rules_groups (block + blocks r) rules)
    (rule_holds e all m plan fits says block r here.0 here.1.0 count.0 here.1.1)
    (rules_hold e all m plan fits says (block + blocks r) rules (λ k q is. each (suc k) q is) count.1)

-- ---- the whole

planned_may : (p : Problem) (assigned : List (Option ℕ)) (finished : List Bool) (plan : List ℕ) → AreAssigned finished assigned →
    IsValidPlan p assigned finished plan → (s : ℕ) → s < p.steps → (o : Option ℕ) → user_at assigned s ≡ o → may_be p finished s o (planned plan s) ≡ true
planned_may p assigned finished plan all valid s within o is = grind (arith, not_true, and_from, eq_is, bool_cases, or_left, or_right)

pub plans_are_models : PlansAreModels
plans_are_models p assigned finished plan m sound all valid says =
    let e = encoding_of p assigned finished in
    let fits : Fits e plan = record {
      below = valid.known;
      may = grind (arith, and_from, lt_yes, planned_may);
    } in
    let steps = flat_from (GroupHolds e m) step_groups (numbers 0 e.steps) (numbers_from (λ s. Every (GroupHolds e m) (step_groups s)) 0 e.steps (λ s low high.
    let within : s < e.steps = omega (arith, high) in
    (outside e p.rules m plan fits says s within, (someone e p.rules m plan fits says s within, (once e p.rules m plan fits says s within, tt))))) in
    let rules = rules_hold e p.rules m plan fits says (step_blocks e.steps) p.rules
    (λ k r is. (sound.named k r is, (sound.members k r is, valid.obeyed k r is))) says.counted in
    All-from_recursion (Holds m) (clauses_of p assigned finished) (flat_from (Holds m) (group_clauses e) (groups p.steps p.rules)
    (joined (GroupHolds e m) (flat_map step_groups (numbers 0 e.steps)) (rules_groups (step_blocks e.steps) p.rules) steps rules))
