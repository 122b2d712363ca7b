-- A valid plan that a change cannot hurt stays valid.
use Rattle.std.proofs.Common.{◌≡◌, ◌≢◌, ◌==◌, ◌&&◌, ◌||◌, not, ℕ, zero, suc, ◌+◌, ◌<◌, ◌≤◌, Bool, true, false, List, [], ◌∷◌, ◌++◌, length, Option, Some}
use Rattle.std.proofs.Common.{◌⊎◌, inl, inr, refl, sym, ap, subst, ◌∙◌, arith, length-append}
use Rattle.std.specs.Prelude.{slice_get}
use Rattle.std.specs.List.{list_any}
use Rattle.std.specs.Option.{option_map}
use Rattle.std.specs.FinSet as set
use Rattle.std.proofs.lemmas.Bool.Decides.{eqb_tells}
use Rattle.std.proofs.lemmas.List.{get_or-set_same, get_or-set_other}
use Rattle.std.specs.Ordering.{eq_by_cmp}
use Rattle.std.proofs.lemmas.Map.Views.{tells_apart}
use Rattle.basics.proofs.Booleans.{and_both, and_from, differ, eq_is, eq_same, or_cases, or_false, or_left, or_right}
use Rattle.basics.specs.Laws.Pairs.{Pairs, pair_cmp}
use Rattle.basics.specs.PairLaws.{pair_cmp_total, pair_cmp-IsAntisymmetric}
use Rattle.rbac_state.specs.Laws.Rosters.{has_role}
use Rattle.user_relations.specs.Laws.Relations.{RelationKind, RelationShape, change_kind, complement_of, complemented, is_related, kind_holds}
use Rattle.user_relations.specs.Laws.Relations.{kind_of}
use Rattle.user_relations.specs.Laws.Relations.{listed, pairs_of, with_kind}
use Rattle.constraint_forms.specs.declared.rule.Rule.{Rule}
use Rattle.constraint_forms.specs.Assign.{is_member, planned}
use Rattle.constraint_forms.specs.Rules.{Relating, all_from, any_from, is_satisfied, reads}
use Rattle.constraint_forms.proofs.Reading.{none_read}
use Rattle.policy_book.specs.Laws.Shapes.{PolicyShape, WorkflowShape}
use Rattle.policy_book.specs.Policies.{any_below, flow_at, problem_of, with_flow, with_roster}
use Rattle.policy_book.specs.Laws.Plans.{IsValidPlan, Problem}
use Rattle.policy_book.proofs.Counting.{any_below-at}
use Rattle.admin_edits.specs.declared.amendment.Amendment.TheVariants as amend
use Rattle.admin_edits.specs.Laws.Edits.{amended, without_roles}
use Rattle.admin_edits.specs.Hurting.{UnhurtPlansStayValid, gives_open, is_number, is_over}

-- what a plan has to keep under another policy, so that it stays valid
pub stays : (p q : Problem) (assigned : List (Option ℕ)) (finished : List Bool) (plan : List ℕ) → q.steps ≡ p.steps → p.users ≤ q.users → q.rules ≡ p.rules →
    ((s : ℕ) → s < p.steps → is_member finished s ≡ false → p.authorised s (planned plan s) ≡ true → q.authorised s (planned plan s) ≡ true) →
    ((k : ℕ) (rule : Rule) → slice_get p.rules k ≡ Some rule → is_satisfied p.related rule (planned plan) ≡ true →
    is_satisfied q.related rule (planned plan) ≡ true) →
    IsValidPlan p assigned finished plan → IsValidPlan q assigned finished plan
stays p q assigned finished plan steps users rules authorised related valid = grind arith

-- ---- who is authorised

-- some number that passes one test passes another
pub more_below : (n : ℕ) (test other : ℕ → Bool) → ((k : ℕ) → test k ≡ true → other k ≡ true) → any_below n test ≡ true → any_below n other ≡ true
more_below zero test other more is = is
more_below (suc n) test other more is = elim (or_cases (any_below n test) (test n) is) [
  | inl before ↦ or_left (any_below n other) (other n) (more_below n test other more before)
  | inr here ↦ or_right (any_below n other) (other n) (more n here)
]

-- what is in a set is in it with one more
still_in : (pairs : Pairs) (k q : ℕ × ℕ) → set.contains pairs q ≡ true → set.contains (set.insert pairs k) q ≡ true
still_in pairs k q is = set.contains-insert pair_cmp_total pairs k q ∙ or_right _ (set.contains pairs q) is

-- and in it without another
pub not_taken : (pairs : Pairs) (k q : ℕ × ℕ) → (q ≡ k → ⊥) → set.contains pairs q ≡ true → set.contains (set.remove pairs k) q ≡ true
not_taken pairs k q other is =
    set.contains-remove pair_cmp_total pairs k q
    ∙ elim (eq_by_cmp pair_cmp q k) as (λ b. eq_by_cmp pair_cmp q k ≡ b → (not b && set.contains pairs q) ≡ true) [
      | true ↦ λ e. absurd (other (tells_apart pair_cmp-IsAntisymmetric q k e))
      | false ↦ λ e. is
    ] refl

-- the roles of another user stay when all of a user's are taken away
pub others_keep : (n u v r : ℕ) (members : Pairs) → v ≢ u → set.contains members (v, r) ≡ true → set.contains (without_roles n u members) (v, r) ≡ true
others_keep zero u v r members other is = is
others_keep (suc n) u v r members other is = grind (arith, not_taken, (others_keep n u v r members other is))

-- a step that is not finished goes to another user
goes_to_another : (finished : List Bool) (plan : List ℕ) (u s : ℕ) → gives_open finished plan u ≡ false → s < length plan → is_member finished s ≡ false →
    planned plan s ≢ u
goes_to_another finished plan u s none within open_ is =
    let here : (not (is_member finished s) && (planned plan s == u)) ≡ true = and_from _ _ (ap not open_) (eq_is (planned plan s) u is) in
    differ (gives_open finished plan u) (any_below-at (length plan) s (λ t. not (is_member finished t) && (planned plan t == u)) within here) none

-- ---- workflows

-- all that a policy says of a workflow
abbrev pub problem_with : PolicyShape → WorkflowShape → Problem
problem_with p w = record {
  steps = length w.flow.steps;
  users = length p.roster.users;
  authorised = λ s u. any_below (length p.roster.roles) (λ r. has_role p.roster u r && set.contains w.flow.permits (r, s));
  related = is_related p.relations;
  rules = w.rules;
}

-- after a change of the workflow at g, that at f is the new one, or as it was
pub flow_there : (p : PolicyShape) (g : ℕ) (w : WorkflowShape) (f : ℕ) → g < length p.flows → ((f ≡ g) × (flow_at (with_flow p g w) f ≡ w)) ⊎
    (flow_at (with_flow p g w) f ≡ flow_at p f)
flow_there p g w f within = grind (arith, eqb_tells, get_or-set_same, get_or-set_other)

-- what a plan has to keep where one workflow changes
flow_stays : (p : PolicyShape) (g : ℕ) (w : WorkflowShape) (f : ℕ) (assigned : List (Option ℕ)) (finished : List Bool) (plan : List ℕ) → g < length p.flows →
    (f ≡ g → length w.flow.steps ≡ length (flow_at p f).flow.steps) → (f ≡ g → w.rules ≡ (flow_at p f).rules) →
    (f ≡ g → (s r : ℕ) → is_member finished s ≡ false → has_role p.roster (planned plan s) r ≡ true →
    set.contains (flow_at p f).flow.permits (r, s) ≡ true → set.contains w.flow.permits (r, s) ≡ true) →
    IsValidPlan (problem_of p f) assigned finished plan → IsValidPlan (problem_of (with_flow p g w) f) assigned finished plan
flow_stays p g w f assigned finished plan within steps rules permits valid = elim (flow_there p g w f within) [
  | inr same ↦ subst (λ (x : WorkflowShape). IsValidPlan (problem_with p x) assigned finished plan) (sym same) valid
  | inl new ↦ subst (λ (x : WorkflowShape). IsValidPlan (problem_with p x) assigned finished plan) (sym new.1)
      (stays (problem_of p f) (problem_with p w) assigned finished plan (steps new.0) (omega arith) (rules new.0)
      (λ s h open_ is. more_below (length p.roster.roles) (λ r. has_role p.roster (planned plan s) r && set.contains (flow_at p f).flow.permits (r, s))
      (λ r. has_role p.roster (planned plan s) r && set.contains w.flow.permits (r, s))
      (λ r both. let held = and_both (has_role p.roster (planned plan s) r) (set.contains (flow_at p f).flow.permits (r, s)) both in
      and_from _ _ held.0 (permits new.0 s r open_ held.0 held.1)) is)
      (λ k rule is obeyed. obeyed) valid)
]

-- ---- relations

change_other : (rs : List RelationShape) (n m : ℕ) (kind : RelationKind) → m ≢ n →
    option_map (λ (r : RelationShape). r.kind) (slice_get (change_kind rs n kind) m) ≡ option_map (λ (r : RelationShape). r.kind) (slice_get rs m)
change_other [] n m kind other = refl
change_other (r ∷ rs) zero zero kind other = absurd (other refl)
change_other (r ∷ rs) zero (suc m) kind other = refl
change_other (r ∷ rs) (suc n) zero kind other = refl
change_other (r ∷ rs) (suc n) (suc m) kind other = change_other rs n m kind (λ e. other (ap (λ (k : ℕ). suc k) e))

-- another relation is as it was
pub kind_other : (rs : List RelationShape) (rho sigma : ℕ) (kind : RelationKind) → sigma ≢ rho → kind_of (with_kind rs rho kind) sigma ≡ kind_of rs sigma
kind_other rs rho sigma kind other = grind (arith, change_other)

holds_other : (rs : List RelationShape) (rho : ℕ) (kind : RelationKind) (of : Option RelationKind) (u v : ℕ) → is_number rho (complemented of) ≡ false →
    kind_holds (with_kind rs rho kind) of u v ≡ kind_holds rs of u v
holds_other rs rho kind of u v other = grind (arith, kind_other, differ, eq_is)

-- and relates the same users, if it is not the complement of the one that changes
pub related_other : (rs : List RelationShape) (rho sigma : ℕ) (kind : RelationKind) (u v : ℕ) → sigma ≢ rho → is_number rho (complement_of rs sigma) ≡ false →
    is_related (with_kind rs rho kind) sigma u v ≡ is_related rs sigma u v
related_other rs rho zero kind u v other none = refl
related_other rs rho (suc zero) kind u v other none = refl
related_other rs rho (suc (suc m)) kind u v other none =
    ap (λ (k : Option RelationKind). kind_holds (with_kind rs rho kind) k u v) (kind_other rs rho (suc (suc m)) kind other)
    ∙ holds_other rs rho kind (kind_of rs (suc (suc m))) u v none

any_same : (k : ℕ) (group : List Bool) (a b : ℕ → Bool) → ((x : ℕ) → a x ≡ b x) → any_from k group a ≡ any_from k group b
any_same k [] a b same = refl
any_same k (m ∷ ms) a b same = ap (λ (t : Bool). (m && t) || any_from (k + 1) ms a) (same k) ∙ ap (λ (t : Bool). (m && b k) || t) (any_same (k + 1) ms a b same)

all_same : (k : ℕ) (group : List Bool) (a b : ℕ → Bool) → ((x : ℕ) → a x ≡ b x) → all_from k group a ≡ all_from k group b
all_same k [] a b same = refl
all_same k (m ∷ ms) a b same = grind (arith, (all_same (k + 1) ms a b same))

-- a rule rests on the relations that it reads alone
pub satisfied_same : (a b : Relating) (rule : Rule) (f : ℕ → ℕ) → ((rho u v : ℕ) → reads rule rho ≡ true → b rho u v ≡ a rho u v) →
    is_satisfied b rule f ≡ is_satisfied a rule f
satisfied_same a b rule f same = grind (arith, eq_same, any_same, all_same)

none_passes : (test : Rule → Bool) (rules : List Rule) (k : ℕ) (rule : Rule) → list_any test rules ≡ false → slice_get rules k ≡ Some rule → test rule ≡ false
none_passes test [] k rule none is = absurd (cc)
none_passes test (r ∷ rs) zero rule none is = let same : r ≡ rule = cc in ap test (sym same) ∙ (or_false (test r) (list_any test rs) none).0
none_passes test (r ∷ rs) (suc k) rule none is = none_passes test rs k rule (or_false (test r) (list_any test rs) none).1 is

-- where no rule reads a relation or its complement, a plan stays valid whatever its pairs are
pairs_stay : (p : PolicyShape) (rho : ℕ) (kind : RelationKind) (f : ℕ) (assigned : List (Option ℕ)) (finished : List Bool) (plan : List ℕ) →
    list_any (is_over p.relations rho) (flow_at p f).rules ≡ false →
    IsValidPlan (problem_of p f) assigned finished plan →
    IsValidPlan (problem_of (record p { relations = with_kind p.relations rho kind }) f) assigned finished plan
pairs_stay p rho kind f assigned finished plan none valid =
    stays (problem_of p f) (problem_of (record p { relations = with_kind p.relations rho kind }) f) assigned finished plan refl (omega arith) refl
    (λ s h open_ is. is)
    (λ k rule is obeyed.
    let apart = none_passes (is_over p.relations rho) (flow_at p f).rules k rule none is in
    let over : (own : ℕ) → reads rule own ≡ true → ((own == rho) ≡ false) × (is_number rho (complement_of p.relations own) ≡ false) =
    λ own read. or_false (own == rho) (is_number rho (complement_of p.relations own))
    (none_read rule (λ x. (x == rho) || is_number rho (complement_of p.relations x)) apart own read) in
    satisfied_same (is_related p.relations) (is_related (with_kind p.relations rho kind)) rule (planned plan)
    (λ own u v read. related_other p.relations rho own kind u v (λ e. differ (own == rho) (eq_is own rho e) (over own read).0) (over own read).1)
    ∙ obeyed)
    valid

-- ---- members

-- what a plan has to keep where memberships change
members_stay : (p : PolicyShape) (members : Pairs) (f : ℕ) (assigned : List (Option ℕ)) (finished : List Bool) (plan : List ℕ) →
    ((s r : ℕ) → s < length plan → is_member finished s ≡ false → has_role p.roster (planned plan s) r ≡ true →
    set.contains members (planned plan s, r) ≡ true) →
    IsValidPlan (problem_of p f) assigned finished plan →
    IsValidPlan (problem_of (with_roster p (record p.roster { members = members })) f) assigned finished plan
members_stay p members f assigned finished plan keep valid = grind (arith, stays, more_below, and_both, and_from)

pub unhurt_plans_stay_valid : UnhurtPlansStayValid
unhurt_plans_stay_valid p (amend.AddUser name) f assigned finished plan found unhurt valid =
    let more : length (p.roster.users ++ name ∷ []) ≡ length p.roster.users + 1 = length-append p.roster.users (name ∷ []) in
    stays (problem_of p f) (problem_of (amended p (amend.AddUser name)) f) assigned finished plan refl (omega (arith, more)) refl (λ s h open_ is. is)
    (λ k rule is obeyed. obeyed) valid
unhurt_plans_stay_valid p (amend.Leave u) f assigned finished plan found unhurt valid =
    members_stay p (without_roles (length p.roster.roles) u p.roster.members) f assigned finished plan
    (λ s r within open_ held. others_keep (length p.roster.roles) u (planned plan s) r p.roster.members
    (goes_to_another finished plan u s unhurt within open_) held) valid
unhurt_plans_stay_valid p (amend.Enrol u r) f assigned finished plan found unhurt valid =
    members_stay p (set.insert p.roster.members (u, r)) f assigned finished plan
    (λ s t within open_ held. still_in p.roster.members (u, r) (planned plan s, t) held) valid
unhurt_plans_stay_valid p (amend.Dismiss u r) f assigned finished plan found unhurt valid =
    members_stay p (set.remove p.roster.members (u, r)) f assigned finished plan
    (λ s t within open_ held. not_taken p.roster.members (u, r) (planned plan s, t)
    (λ e. goes_to_another finished plan u s unhurt within open_ (ap (λ (x : ℕ × ℕ). x.0) e)) held) valid
unhurt_plans_stay_valid p (amend.Relate rho u v) f assigned finished plan found unhurt valid =
    pairs_stay p rho (listed (set.insert (pairs_of p.relations rho) (u, v))) f assigned finished plan unhurt valid
unhurt_plans_stay_valid p (amend.Unrelate rho u v) f assigned finished plan found unhurt valid =
    pairs_stay p rho (listed (set.remove (pairs_of p.relations rho) (u, v))) f assigned finished plan unhurt valid
unhurt_plans_stay_valid p (amend.Permit g r s) f assigned finished plan found unhurt valid =
    flow_stays p g (record (flow_at p g) { flow = record (flow_at p g).flow { permits = set.insert (flow_at p g).flow.permits (r, s) } }) f assigned
    finished plan found.flow
    (λ e. ap (λ (n : ℕ). length (flow_at p n).flow.steps) (sym e)) (λ e. ap (λ (n : ℕ). (flow_at p n).rules) (sym e))
    (λ e t q open_ held permitted. still_in
    (flow_at p g).flow.permits (r, s) (q, t) (subst (λ (n : ℕ). set.contains (flow_at p n).flow.permits (q, t) ≡ true) e permitted)) valid
unhurt_plans_stay_valid p (amend.Forbid g r s) f assigned finished plan found unhurt valid =
    flow_stays p g (record (flow_at p g) { flow = record (flow_at p g).flow { permits = set.remove (flow_at p g).flow.permits (r, s) } }) f assigned
    finished plan found.flow
    (λ e. ap (λ (n : ℕ). length (flow_at p n).flow.steps) (sym e)) (λ e. ap (λ (n : ℕ). (flow_at p n).rules) (sym e))
    (λ e t q open_ held permitted. not_taken (flow_at p g).flow.permits (r, s) (q, t)
    (λ same. let role : q ≡ r = ap (λ (x : ℕ × ℕ). x.0) same in
    let step : t ≡ s = ap (λ (x : ℕ × ℕ). x.1) same in
    let open_there : is_member finished s ≡ false = subst (λ (n : ℕ). is_member finished n ≡ false) step open_ in
    let held_there : has_role p.roster (planned plan s) r ≡ true =
    subst (λ (n : ℕ). has_role p.roster (planned plan n) r ≡ true) step (subst (λ (n : ℕ). has_role p.roster (planned plan t) n ≡ true) role held) in
    differ _ (and_from (f == g) _ (eq_is f g e) (and_from (not (is_member finished s)) _ (ap not open_there) held_there)) unhurt)
    (subst (λ (n : ℕ). set.contains (flow_at p n).flow.permits (q, t) ≡ true) e permitted)) valid
unhurt_plans_stay_valid p (amend.Retire g) f assigned finished plan found unhurt valid =
    flow_stays p g (record (flow_at p g) { retired = true }) f assigned finished plan found
    (λ e. ap (λ (n : ℕ). length (flow_at p n).flow.steps) (sym e)) (λ e. ap (λ (n : ℕ). (flow_at p n).rules) (sym e))
    (λ e t q open_ held permitted. subst (λ (n : ℕ). set.contains (flow_at p n).flow.permits (q, t) ≡ true) e permitted) valid
