-- A valid plan that a change does not make invalid stays valid.
use Rattle.wf_board.proofs.Common.{◌≡◌, ◌≢◌, ◌==◌, ◌&&◌, not, ℕ, zero, suc, ◌+◌, ◌<◌, Bool, true, false, List, [], ◌∷◌, length, take, Option, Some, inl, inr}
use Rattle.wf_board.proofs.Common.{refl, sym, ap, subst, ◌∙◌, arith, eqb_tells, and_from, bool_cases, differ, eq_is, or_false, RelationKind, is_related}
use Rattle.wf_board.proofs.Common.{pairs_of, with_kind, Rule, is_satisfied, IsRuleOf, PolicyShape, flow_at, is_authorised, problem_of, IsSoundPolicy}
use Rattle.wf_board.proofs.Common.{IsValidPlan, any_below-at, Pairs, CaseShape, assigned_of, finished_of, finished_of-at, Row, open_count, Amendment, amended}
use Rattle.wf_board.proofs.Common.{IsKnownChange, changes_keep_names, unhurt_plans_stay_valid, gives, IsPlanOf, IsAllowed, ArePlanned, EachRow, IsOfPolicy}
use Rattle.wf_board.proofs.Common.{IsPlanned}
use Rattle.std.proofs.Common.{drop, get_or}
use Rattle.std.proofs.Common.{length-append}
use Rattle.std.specs.Prelude.{slice_get}
use Rattle.std.specs.FinSet as set
use Rattle.std.proofs.lemmas.Option.{slice_get_within}
use Rattle.basics.proofs.Lists.{take_next}
use Rattle.basics.proofs.Booleans.{not_true, second_false}
use Rattle.user_relations.specs.Laws.Relations.{kind_of, listed, listed_pairs}
use Rattle.constraint_forms.specs.Assign.{is_member, planned}
use Rattle.constraint_forms.proofs.Reading.{none_read}
use Rattle.policy_book.specs.Laws.Shapes.{WorkflowShape}
use Rattle.policy_book.specs.Policies.{any_below, with_flow, with_roster}
use Rattle.grant_table.specs.Kept.{ArePlannedWhileOpen, IsOpenPart}
use Rattle.grant_table.proofs.Passed.{closed_first, closed_rest}
use Rattle.admin_edits.specs.declared.amendment.Amendment.TheVariants as amend
use Rattle.admin_edits.specs.Laws.Edits.{without_roles}
use Rattle.admin_edits.specs.Hurting.{is_over}
use Rattle.admin_edits.proofs.Unhurt.{flow_there, more_below, not_taken, others_keep, problem_with, related_other, satisfied_same, stays}
use Rattle.wf_board.specs.Breaking.{breaks, breaks_rule, is_barred, is_broken_over, loses_step, HasPlanFor, NamesStep}
use Rattle.wf_board.proofs.Amended.{closed_planned}
use Rattle.wf_board.proofs.Exact.{well_formed_any}
use Rattle.wf_board.proofs.Meeting.{listed_put, listed_taken, put_other, satisfied_apart, taken_other}
use Rattle.wf_board.proofs.Rows.{each_added}

-- where no number below n passes, each fails
none_below : (n : ℕ) (test : ℕ → Bool) → any_below n test ≡ false → (k : ℕ) → k < n → test k ≡ false
none_below n test none k below = not_true (test k) (λ is. differ (any_below n test) (any_below-at n k test below is) none)

-- one of two tests that both pass may be exchanged for one that passes with it
first_still : (a b d : Bool) → (a ≡ true → b ≡ true) → (a && d) ≡ true → (b && d) ≡ true
first_still a b d still both = grind (arith, and_from)

second_still : (a b d : Bool) → (b ≡ true → d ≡ true) → (a && b) ≡ true → (a && d) ≡ true
second_still a b d still both = grind arith

-- a step that is not barred and not finished is one that its user may perform
may_still : (q : PolicyShape) (c : CaseShape) (plan : List ℕ) (s : ℕ) → is_barred q c plan s ≡ false → is_member (finished_of c) s ≡ false →
    is_authorised q c.flow s (planned plan s) ≡ true
may_still q c plan s free open_ = grind (arith, finished_of-at, bool_cases, differ, and_from)

-- a user of a step that is not finished may still perform it
still_hers : (q : PolicyShape) (c : CaseShape) (plan : List ℕ) (u s : ℕ) → loses_step q c plan u ≡ false → s < length plan →
    is_member (finished_of c) s ≡ false →
    (planned plan s == u) ≡ true → is_authorised q c.flow s (planned plan s) ≡ true
still_hers q c plan u s none below open_ hers =
    may_still q c plan s
    (second_false (planned plan s == u) (is_barred q c plan s) (none_below (length plan) (λ t. (planned plan t == u) && is_barred q c plan t) none s below)
    hers) open_

-- where memberships change, of one user alone, and this one loses no step
members_unbroken : (p : PolicyShape) (members : Pairs) (c : CaseShape) (plan : List ℕ) (u : ℕ) →
    ((v r : ℕ) → v ≢ u → set.contains p.roster.members (v, r) ≡ true → set.contains members (v, r) ≡ true) →
    loses_step (with_roster p (record p.roster { members = members })) c plan u ≡ false →
    IsPlanOf p c plan → IsPlanOf (with_roster p (record p.roster { members = members })) c plan
members_unbroken p members c plan u keep none valid =
    let q = with_roster p (record p.roster { members = members }) in
    stays (problem_of p c.flow) (problem_of q c.flow) (assigned_of c) (finished_of c) plan refl (omega arith) refl
    (λ s h open_ is.
    let within : s < length plan = omega (arith, h, valid.whole) in
    elim (eqb_tells (planned plan s) u) [
      | inl hers ↦ still_hers q c plan u s none within open_ hers.0
      | inr other ↦ grind (arith, more_below, first_still)
    ])
    (λ k rule is obeyed. obeyed) valid

satisfied_there : (q : PolicyShape) (rule : Rule) (plan : List ℕ) → not (is_satisfied (is_related q.relations) rule (planned plan)) ≡ false →
    is_satisfied (is_related q.relations) rule (planned plan) ≡ true
satisfied_there q rule plan h = grind (arith, bool_cases, differ)

satisfied_over : (p : PolicyShape) (rho : ℕ) (kind : RelationKind) (rule : Rule) (plan : List ℕ) → is_over p.relations rho rule ≡ false →
    is_satisfied (is_related (with_kind p.relations rho kind)) rule (planned plan) ≡ is_satisfied (is_related p.relations) rule (planned plan)
satisfied_over p rho kind rule plan apart = grind (arith, or_false, none_read, satisfied_same, related_other, differ, eq_is)

-- where pairs of a relation change, and each rule over it or its complement is satisfied
rules_unbroken : (p : PolicyShape) (rho : ℕ) (kind : RelationKind) (c : CaseShape) (plan : List ℕ) →
    breaks_rule p.relations (record p { relations = with_kind p.relations rho kind }) rho c.flow plan ≡ false →
    IsPlanOf p c plan → IsPlanOf (record p { relations = with_kind p.relations rho kind }) c plan
rules_unbroken p rho kind c plan none valid =
    let q = record p { relations = with_kind p.relations rho kind } in
    let rules = (flow_at p c.flow).rules in
    stays (problem_of p c.flow) (problem_of q c.flow) (assigned_of c) (finished_of c) plan refl (omega arith) refl (λ s h open_ is. is)
    (λ k rule is obeyed.
    let here : is_broken_over p.relations q rho plan (Some rule) ≡ false =
    ap (is_broken_over p.relations q rho plan) (sym is)
    ∙ none_below (length rules) (λ n. is_broken_over p.relations q rho plan (slice_get rules n)) none k (slice_get_within rules k rule is) in
    elim (bool_cases (is_over p.relations rho rule)) [
      | inl over ↦ satisfied_there q rule plan (second_false (is_over p.relations rho rule) _ here over)
      | inr apart ↦ satisfied_over p rho kind rule plan apart ∙ obeyed
    ])
    valid

-- where one pair changes, and the plan does not give steps to both its users
pair_unbroken : (p : PolicyShape) (rho u v : ℕ) (old new : Pairs) (c : CaseShape) (plan : List ℕ) → IsSoundPolicy p →
    kind_of p.relations rho ≡ Some (listed old) →
    ((q : ℕ × ℕ) → (q ≡ (u, v) → ⊥) → set.contains new q ≡ set.contains old q) → (gives plan u && gives plan v) ≡ false →
    IsPlanOf p c plan → IsPlanOf (record p { relations = with_kind p.relations rho (listed new) }) c plan
pair_unbroken p rho u v old new c plan sound is others none valid =
    let q = record p { relations = with_kind p.relations rho (listed new) } in
    stays (problem_of p c.flow) (problem_of q c.flow) (assigned_of c) (finished_of c) plan refl (omega arith) refl (λ s h open_ may. may)
    (λ k rule there obeyed.
    satisfied_apart p.relations rho old new rule plan u v is others
    (subst (λ (n : ℕ). IsRuleOf n rule) (sym valid.whole) (well_formed_any p c.flow sound k rule there)) none
    ∙ obeyed)
    valid

-- where one pair changes, and the rules over its relation are satisfied if the plan gives steps to both its users
pairs_unbroken : (p : PolicyShape) (rho u v : ℕ) (old new : Pairs) (c : CaseShape) (plan : List ℕ) → IsSoundPolicy p →
    kind_of p.relations rho ≡ Some (listed old) →
    ((q : ℕ × ℕ) → (q ≡ (u, v) → ⊥) → set.contains new q ≡ set.contains old q) →
    ((gives plan u && gives plan v) && breaks_rule p.relations (record p { relations = with_kind p.relations rho (listed new) }) rho c.flow plan) ≡ false →
    IsPlanOf p c plan → IsPlanOf (record p { relations = with_kind p.relations rho (listed new) }) c plan
pairs_unbroken p rho u v old new c plan sound is others none valid = elim (bool_cases (gives plan u && gives plan v)) [
  | inl both ↦ rules_unbroken p rho (listed new) c plan (second_false (gives plan u && gives plan v) _ none both) valid
  | inr apart ↦ pair_unbroken p rho u v old new c plan sound is others apart valid
]

-- where a role is forbidden a step, and the user whom the plan gives it to may still perform it
forbidden_unbroken : (p : PolicyShape) (g r s : ℕ) (c : CaseShape) (plan : List ℕ) → g < length p.flows →
    ((c.flow == g) && is_barred (amended p (amend.Forbid g r s)) c plan s) ≡ false →
    IsPlanOf p c plan → IsPlanOf (amended p (amend.Forbid g r s)) c plan
forbidden_unbroken p g r s c plan within none valid =
    let w = record (flow_at p g) { flow = record (flow_at p g).flow { permits = set.remove (flow_at p g).flow.permits (r, s) } } in
    let q = with_flow p g w in
    elim (flow_there p g w c.flow within) [
      | inr same ↦ subst (λ (x : WorkflowShape). IsValidPlan (problem_with p x) (assigned_of c) (finished_of c) plan) (sym same) valid
      | inl new ↦
          let was : flow_at p c.flow ≡ flow_at p g = ap (flow_at p) new.0 in
          subst (λ (x : WorkflowShape). IsValidPlan (problem_with p x) (assigned_of c) (finished_of c) plan) (sym new.1)
          (stays (problem_of p c.flow) (problem_with p w) (assigned_of c) (finished_of c) plan
          (ap (λ (x : WorkflowShape). length x.flow.steps) (sym was)) (omega arith) (ap (λ (x : WorkflowShape). x.rules) (sym was))
          (λ t h open_ is. elim (eqb_tells t s) [
            | inl here ↦
                let free : is_barred q c plan t ≡ false =
                subst (λ (n : ℕ). is_barred q c plan n ≡ false) (sym here.1)
                (second_false (c.flow == g) (is_barred q c plan s) none (eq_is c.flow g new.0)) in
                subst (λ (x : WorkflowShape). (problem_with p x).authorised t (planned plan t) ≡ true) new.1 (may_still q c plan t free open_)
            | inr other ↦ grind (arith, more_below, second_still, not_taken)
          ])
          (λ k rule is obeyed. obeyed) valid)
    ]

pub unbroken : (p : PolicyShape) (a : Amendment) (c : CaseShape) (plan : List ℕ) → IsSoundPolicy p → IsAllowed p a → breaks p (amended p a) a c plan ≡ false →
    IsPlanOf p c plan → IsPlanOf (amended p a) c plan
unbroken p (amend.AddUser name) c plan sound is none valid =
    unhurt_plans_stay_valid p (amend.AddUser name) c.flow (assigned_of c) (finished_of c) plan is.found refl valid
unbroken p (amend.Leave u) c plan sound is none valid =
    members_unbroken p (without_roles (length p.roster.roles) u p.roster.members) c plan u
    (λ v r other held. others_keep (length p.roster.roles) u v r p.roster.members other held) none valid
unbroken p (amend.Enrol u r) c plan sound is none valid =
    unhurt_plans_stay_valid p (amend.Enrol u r) c.flow (assigned_of c) (finished_of c) plan is.found refl valid
unbroken p (amend.Dismiss u r) c plan sound is none valid =
    members_unbroken p (set.remove p.roster.members (u, r)) c plan u
    (λ v t other held. not_taken p.roster.members (u, r) (v, t) (λ e. other (ap (λ (x : ℕ × ℕ). x.0) e)) held) none valid
unbroken p (amend.Relate rho u v) c plan sound is none valid =
    let there = listed_put (kind_of p.relations rho) u v is.allowed in
    pairs_unbroken p rho u v there.0 (set.insert (pairs_of p.relations rho) (u, v)) c plan sound there.1
    (λ q other. put_other (pairs_of p.relations rho) (u, v) q other ∙ ap (λ k. set.contains (listed_pairs k) q) there.1) none valid
unbroken p (amend.Unrelate rho u v) c plan sound is none valid =
    let there = listed_taken (kind_of p.relations rho) u v is.allowed in
    pairs_unbroken p rho u v there.0 (set.remove (pairs_of p.relations rho) (u, v)) c plan sound there.1
    (λ q other. taken_other (pairs_of p.relations rho) (u, v) q other ∙ ap (λ k. set.contains (listed_pairs k) q) there.1) none valid
unbroken p (amend.Permit g r s) c plan sound is none valid =
    unhurt_plans_stay_valid p (amend.Permit g r s) c.flow (assigned_of c) (finished_of c) plan is.found refl valid
unbroken p (amend.Forbid g r s) c plan sound is none valid = forbidden_unbroken p g r s c plan is.found.flow none valid
unbroken p (amend.Retire g) c plan sound is none valid =
    unhurt_plans_stay_valid p (amend.Retire g) c.flow (assigned_of c) (finished_of c) plan is.found refl valid

-- a valid plan has its steps and its users after a change too
pub has_plan : (p : PolicyShape) (a : Amendment) (c : CaseShape) (plan : List ℕ) → IsKnownChange p a → IsOfPolicy p c → IsPlanOf p c plan →
    HasPlanFor (amended p a) c.flow plan
has_plan p a c plan found known valid = grind (arith, changes_keep_names, length-append)

-- and the step that is forbidden
pub names_step : (p : PolicyShape) (a : Amendment) (c : CaseShape) (plan : List ℕ) → IsKnownChange p a → IsPlanOf p c plan → NamesStep a c.flow plan
names_step p a c plan found valid = grind arith

-- ---- rows

-- the plan of a row is one of its case, and one of its case is that of the row
pub plan_of_row : (p : PolicyShape) (c d : CaseShape) (o : Option (List ℕ)) (plan : List ℕ) → Some plan ≡ o → d ≡ c → IsPlanned p c o → IsPlanOf p d plan
plan_of_row p c d o plan is same planned = subst (λ k. IsPlanOf p k plan) (sym same) (subst (IsPlanned p c) (sym is) planned)

pub row_planned : (q : PolicyShape) (c d : CaseShape) (o : Option (List ℕ)) (plan : List ℕ) → Some plan ≡ o → d ≡ c → IsPlanOf q d plan → IsPlanned q c o
row_planned q c d o plan is same valid = subst (IsPlanned q c) is (subst (λ k. IsPlanOf q k plan) same valid)

-- what holds of the rows so far and of the next one
pub each_more : (P : Row → Type 0) (rows : List Row) (i : ℕ) (r : Row) → i < length rows → r ≡ get_or rows i r → EachRow P (take i rows) → P r →
    EachRow P (take (i + 1) rows)
each_more P rows i r below is each one = subst (EachRow P) (sym (take_next rows i r below is)) (each_added P (take i rows) r each one)

pub each_behind : (P : Row → Type 0) (n : ℕ) (rows : List Row) → EachRow P rows → EachRow P (drop n rows)
each_behind P zero rows each = each
each_behind P (suc n) [] each = tt
each_behind P (suc n) (r ∷ rs) each = each_behind P n rs each.1

pub planned_part : (p : PolicyShape) (rows part : List Row) → IsOpenPart rows part → ArePlanned p rows → ArePlanned p part
planned_part p rows part is kept = grind (arith, each_behind)

-- where no case of the first rows is open, the plans of the others are all that there are
planned_before : (q : PolicyShape) (n : ℕ) (rows : List Row) → ArePlannedWhileOpen rows → open_count (take n rows) ≡ 0 →
    EachRow (λ r. IsPlanned q r.case r.plan) (drop n rows) →
    EachRow (λ r. IsPlanned q r.case r.plan) rows
planned_before q zero rows kept none each = each
planned_before q (suc n) rows kept none each = grind (arith, closed_planned, closed_first, closed_rest, (planned_before q n))

pub planned_whole : (q : PolicyShape) (rows part : List Row) → IsOpenPart rows part → ArePlannedWhileOpen rows → EachRow (λ r. IsPlanned q r.case r.plan) part →
    EachRow (λ r. IsPlanned q r.case r.plan) rows
planned_whole q rows part is kept each = planned_before q is.0 rows kept is.1.ended (subst (EachRow (λ r. IsPlanned q r.case r.plan)) is.2 each)
