-- A change of one pair matters to no plan that does not give steps to both users.
use Rattle.wf_board.proofs.Common.{◌≡◌, ◌==◌, ◌&&◌, not, ℕ, zero, suc, ◌+◌, ◌<◌, Bool, true, false, List, [], ◌∷◌, length, Option, None, Some, Ok, inl, inr}
use Rattle.wf_board.proofs.Common.{refl, sym, ap, subst, ◌∙◌, arith, eqb_tells, and_from, differ, Pairs, RelationKind, is_related, pairs_of, with_kind, Rule}
use Rattle.wf_board.proofs.Common.{Relating, IsRuleOf, is_satisfied, any_below-at, gives}
use Rattle.std.proofs.Common.{◌||◌}
use Rattle.std.specs.Prelude.{slice_get}
use Rattle.std.specs.Option.{option_map}
use Rattle.std.specs.FinSet as set
use Rattle.std.specs.Ordering.{eq_by_cmp}
use Rattle.std.proofs.lemmas.Map.Views.{tells_apart}
use Rattle.basics.proofs.Booleans.{eq_same, or_left, or_right}
use Rattle.basics.specs.Laws.Pairs.{pair_cmp}
use Rattle.basics.specs.PairLaws.{pair_cmp_total, pair_cmp-IsAntisymmetric}
use Rattle.user_relations.specs.Laws.Relations.{RelationShape, change_kind, complement, kind_holds, kind_of, listed}
use Rattle.user_relations.specs.Kinds.{put_fault, take_fault}
use Rattle.constraint_forms.specs.declared.rule.Rule.TheVariants.{Pair, SomeOf, AllOf, SomeTo, AllTo, AtMost, AtLeast}
use Rattle.constraint_forms.specs.Assign.{is_member, planned}
use Rattle.constraint_forms.specs.Rules.{all_from, any_from}
use Rattle.admin_edits.specs.Laws.Edits.{pair_fault, unless_fault}
use Rattle.admin_edits.proofs.Unhurt.{kind_other}

-- ---- rules

any_same_in : (k : ℕ) (group : List Bool) (a b : ℕ → Bool) → ((i : ℕ) → is_member group i ≡ true → b (k + i) ≡ a (k + i)) →
    any_from k group b ≡ any_from k group a
any_same_in k [] a b same = refl
any_same_in k (true ∷ ms) a b same =
    let here : k + 0 ≡ k = omega arith in
    ap (λ (t : Bool). t || any_from (k + 1) ms b) (subst (λ (n : ℕ). b n ≡ a n) here (same 0 refl))
    ∙ ap (λ (t : Bool). a k || t)
    (any_same_in (k + 1) ms a b (λ i is. let next : k + suc i ≡ k + 1 + i = omega arith in subst (λ (n : ℕ). b n ≡ a n) next (same (suc i) is)))
any_same_in k (false ∷ ms) a b same =
    any_same_in (k + 1) ms a b (λ i is. let next : k + suc i ≡ k + 1 + i = omega arith in subst (λ (n : ℕ). b n ≡ a n) next (same (suc i) is))

all_same_in : (k : ℕ) (group : List Bool) (a b : ℕ → Bool) → ((i : ℕ) → is_member group i ≡ true → b (k + i) ≡ a (k + i)) →
    all_from k group b ≡ all_from k group a
all_same_in k [] a b same = refl
all_same_in k (true ∷ ms) a b same =
    let here : k + 0 ≡ k = omega arith in
    ap (λ (t : Bool). t && all_from (k + 1) ms b) (subst (λ (n : ℕ). b n ≡ a n) here (same 0 refl))
    ∙ ap (λ (t : Bool). a k && t)
    (all_same_in (k + 1) ms a b (λ i is. let next : k + suc i ≡ k + 1 + i = omega arith in subst (λ (n : ℕ). b n ≡ a n) next (same (suc i) is)))
all_same_in k (false ∷ ms) a b same =
    all_same_in (k + 1) ms a b (λ i is. let next : k + suc i ≡ k + 1 + i = omega arith in subst (λ (n : ℕ). b n ≡ a n) next (same (suc i) is))

any_same_first : (group : List Bool) (a b : ℕ → Bool) → ((i : ℕ) → is_member group i ≡ true → b i ≡ a i) → any_from 0 group b ≡ any_from 0 group a
any_same_first group a b same = any_same_in 0 group a b (λ i is. let here : i ≡ 0 + i = omega arith in subst (λ (n : ℕ). b n ≡ a n) here (same i is))

all_same_first : (group : List Bool) (a b : ℕ → Bool) → ((i : ℕ) → is_member group i ≡ true → b i ≡ a i) → all_from 0 group b ≡ all_from 0 group a
all_same_first group a b same = all_same_in 0 group a b (λ i is. let here : i ≡ 0 + i = omega arith in subst (λ (n : ℕ). b n ≡ a n) here (same i is))

-- a rule of a workflow asks only how the users of its steps are related
pub satisfied_among : (a b : Relating) (rule : Rule) (n : ℕ) (f : ℕ → ℕ) → IsRuleOf n rule →
    ((rho s t : ℕ) → s < n → t < n → b rho (f s) (f t) ≡ a rho (f s) (f t)) →
    is_satisfied b rule f ≡ is_satisfied a rule f
satisfied_among a b (Pair rho first second) n f names same =
    same rho first second (names first (or_left _ _ (eq_same first))) (names second (or_right (second == first) _ (eq_same second)))
satisfied_among a b (SomeOf rho group step) n f names same =
    any_same_first group (λ x. a rho (f x) (f step)) (λ x. b rho (f x) (f step))
    (λ i is. same rho i step (names i (or_right (i == step) _ is)) (names step (or_left _ _ (eq_same step))))
satisfied_among a b (AllOf rho group step) n f names same =
    all_same_first group (λ x. a rho (f x) (f step)) (λ x. b rho (f x) (f step))
    (λ i is. same rho i step (names i (or_right (i == step) _ is)) (names step (or_left _ _ (eq_same step))))
satisfied_among a b (SomeTo rho step group) n f names same =
    any_same_first group (λ x. a rho (f step) (f x)) (λ x. b rho (f step) (f x))
    (λ i is. same rho step i (names step (or_left _ _ (eq_same step))) (names i (or_right (i == step) _ is)))
satisfied_among a b (AllTo rho step group) n f names same =
    all_same_first group (λ x. a rho (f step) (f x)) (λ x. b rho (f step) (f x))
    (λ i is. same rho step i (names step (or_left _ _ (eq_same step))) (names i (or_right (i == step) _ is)))
satisfied_among a b (AtMost limit group) n f names same = refl
satisfied_among a b (AtLeast limit group) n f names same = refl

-- ---- relations

kind_there : (rs : List RelationShape) (n : ℕ) (kind old : RelationKind) → option_map (λ (r : RelationShape). r.kind) (slice_get rs n) ≡ Some old →
    option_map (λ (r : RelationShape). r.kind) (slice_get (change_kind rs n kind) n) ≡ Some kind
kind_there [] n kind old is = cc
kind_there (r ∷ rs) n kind old is = grind (arith, (kind_there rs))

-- a relation that is listed has the new kind
kind_here : (rs : List RelationShape) (rho : ℕ) (kind old : RelationKind) → kind_of rs rho ≡ Some old → kind_of (with_kind rs rho kind) rho ≡ Some kind
kind_here rs rho kind old is = grind (arith, kind_there)

-- where two users are in the new pairs as they were in the old ones, they are so in those of every relation
in_pairs : (rs : List RelationShape) (rho : ℕ) (old new : Pairs) (n x y : ℕ) → kind_of rs rho ≡ Some (listed old) →
    set.contains new (x, y) ≡ set.contains old (x, y) →
    set.contains (pairs_of (with_kind rs rho (listed new)) n) (x, y) ≡ set.contains (pairs_of rs n) (x, y)
in_pairs rs rho old new n x y is same = grind (arith, eqb_tells, kind_here, kind_other)

-- and related as before
related_still : (rs : List RelationShape) (rho : ℕ) (old new : Pairs) (own x y : ℕ) → kind_of rs rho ≡ Some (listed old) →
    set.contains new (x, y) ≡ set.contains old (x, y) →
    is_related (with_kind rs rho (listed new)) own x y ≡ is_related rs own x y
related_still rs rho old new zero x y is same = refl
related_still rs rho old new (suc zero) x y is same = refl
related_still rs rho old new (suc (suc m)) x y is same = elim (eqb_tells (suc (suc m)) rho) [
  | inl here ↦
      ap (λ (n : ℕ). kind_holds (with_kind rs rho (listed new)) (kind_of (with_kind rs rho (listed new)) n) x y) here.1
      ∙ ap (λ k. kind_holds (with_kind rs rho (listed new)) k x y) (kind_here rs rho (listed new) (listed old) is)
      ∙ same
      ∙ sym (ap (λ k. kind_holds rs k x y) is)
      ∙ sym (ap (λ (n : ℕ). kind_holds rs (kind_of rs n) x y) here.1)
  | inr other ↦
      ap (λ k. kind_holds (with_kind rs rho (listed new)) k x y) (kind_other rs rho (suc (suc m)) (listed new) other.1)
      ∙ holds_still rs rho old new (kind_of rs (suc (suc m))) x y is same
]
  where
    holds_still : (rs : List RelationShape) (rho : ℕ) (old new : Pairs) (k : Option RelationKind) (x y : ℕ) → kind_of rs rho ≡ Some (listed old) →
        set.contains new (x, y) ≡ set.contains old (x, y) →
        kind_holds (with_kind rs rho (listed new)) k x y ≡ kind_holds rs k x y
    holds_still rs rho old new None x y is same = refl
    holds_still rs rho old new (Some (listed pairs)) x y is same = refl
    holds_still rs rho old new (Some (complement n)) x y is same = ap not (in_pairs rs rho old new n x y is same)

-- a relation of which a pair changes without a fault is listed
pub listed_put : (o : Option RelationKind) (u v : ℕ) → unless_fault (pair_fault (put_fault o u v)) ≡ Ok tt → (pairs : Pairs) × (o ≡ Some (listed pairs))
listed_put None u v is = cc
listed_put (Some (listed pairs)) u v is = (pairs, refl)
listed_put (Some (complement n)) u v is = cc

pub listed_taken : (o : Option RelationKind) (u v : ℕ) → unless_fault (pair_fault (take_fault o u v)) ≡ Ok tt → (pairs : Pairs) × (o ≡ Some (listed pairs))
listed_taken None u v is = cc
listed_taken (Some (listed pairs)) u v is = (pairs, refl)
listed_taken (Some (complement n)) u v is = cc

-- another pair is in a set as it was
pub put_other : (pairs : Pairs) (k q : ℕ × ℕ) → (q ≡ k → ⊥) → set.contains (set.insert pairs k) q ≡ set.contains pairs q
put_other pairs k q other =
    set.contains-insert pair_cmp_total pairs k q
    ∙ elim (eq_by_cmp pair_cmp q k) as (λ b. eq_by_cmp pair_cmp q k ≡ b → (b || set.contains pairs q) ≡ set.contains pairs q) [
      | true ↦ λ e. absurd (other (tells_apart pair_cmp-IsAntisymmetric q k e))
      | false ↦ λ e. refl
    ] refl

pub taken_other : (pairs : Pairs) (k q : ℕ × ℕ) → (q ≡ k → ⊥) → set.contains (set.remove pairs k) q ≡ set.contains pairs q
taken_other pairs k q other =
    set.contains-remove pair_cmp_total pairs k q
    ∙ elim (eq_by_cmp pair_cmp q k) as (λ b. eq_by_cmp pair_cmp q k ≡ b → (not b && set.contains pairs q) ≡ set.contains pairs q) [
      | true ↦ λ e. absurd (other (tells_apart pair_cmp-IsAntisymmetric q k e))
      | false ↦ λ e. refl
    ] refl

-- a plan gives a step to a user
given_at : (plan : List ℕ) (u s : ℕ) → s < length plan → planned plan s ≡ u → gives plan u ≡ true
given_at plan u s below is = any_below-at (length plan) s (λ t. planned plan t == u) below
    (subst (λ (n : ℕ). (planned plan s == n) ≡ true) is (eq_same (planned plan s)))

-- two users of a plan are no pair of which the plan gives a step to one alone
pub apart_from : (plan : List ℕ) (u v s t : ℕ) → (gives plan u && gives plan v) ≡ false → s < length plan → t < length plan →
    ◌≡◌ {A = ℕ × ℕ} (planned plan s, planned plan t) (u, v) → ⊥
apart_from plan u v s t none first second is = grind (arith, differ, and_from, given_at)

-- a rule is satisfied as it was where a pair changes and the plan does not give steps to both users
pub satisfied_apart : (rs : List RelationShape) (rho : ℕ) (old new : Pairs) (rule : Rule) (plan : List ℕ) (u v : ℕ) → kind_of rs rho ≡ Some (listed old) →
    ((q : ℕ × ℕ) → (q ≡ (u, v) → ⊥) → set.contains new q ≡ set.contains old q) → IsRuleOf (length plan) rule → (gives plan u && gives plan v) ≡ false →
    is_satisfied (is_related (with_kind rs rho (listed new))) rule (planned plan) ≡ is_satisfied (is_related rs) rule (planned plan)
satisfied_apart rs rho old new rule plan u v is others names none =
    satisfied_among (is_related rs) (is_related (with_kind rs rho (listed new))) rule (length plan) (planned plan) names
    (λ own s t first second. related_still rs rho old new own (planned plan s) (planned plan t) is
    (others (planned plan s, planned plan t) (apart_from plan u v s t none first second)))
