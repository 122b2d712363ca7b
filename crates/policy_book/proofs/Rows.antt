-- What is kept of who is authorised, under each change of a policy.
use Rattle.std.proofs.Common.{◌≡◌, ◌≢◌, ℕ, zero, suc, ◌<◌, ◌≤◌, Bool, true, false, not, ◌&&◌, ◌||◌, ◌==◌, List, [], ◌∷◌, ◌++◌, length, if◌then◌else◌}
use Rattle.std.proofs.Common.{slice_index_or, slice_set, inl, inr, refl, sym, ap, subst, ◌∙◌, arith, length-append}
use Rattle.std.specs.FinSet as set
use Rattle.std.specs.Ordering.{eq_by_cmp}
use Rattle.std.proofs.lemmas.Map.Views.{tells_apart}
use Rattle.std.proofs.lemmas.Bool.{cases_eq}
use Rattle.std.proofs.lemmas.List.{get_or-set_same, get_or-set_other, get_or_append_left, get_or_push, get_or_default, length-set, length-replicate}
use Rattle.basics.proofs.Booleans.{and-false, and_both, bool_cases, differ, eq_back, eq_is, eq_other, not_true}
use Rattle.basics.specs.Laws.Pairs.{Pairs, pair_cmp}
use Rattle.basics.specs.PairLaws.{pair_cmp_total, pair_cmp-IsAntisymmetric}
use Rattle.wf_names.specs.declared.limits.TheConstants.{STEP_LIMIT}
use Rattle.wf_names.specs.UserSets.{has_user}
use Rattle.rbac_state.specs.Laws.Rosters.{RosterShape}
use Rattle.workflow_schema.specs.Flows.{FlowShape, IsFlow}
use Rattle.constraint_forms.specs.Assign.{is_member, no_steps}
use Rattle.constraint_forms.proofs.Members.{none_member}
use Rattle.policy_book.specs.Laws.Shapes.{WorkflowShape}
use Rattle.policy_book.specs.Policies.{any_below, no_workflow}
use Rattle.policy_book.specs.Duties.{steps_below, row_has, steps_in, AreGathered, may_do, DutyShape, AreDuties, no_duties, duties_at, AreKept}
use Rattle.policy_book.specs.Duties.{IsSettled, AreSettled, AreGrown}
use Rattle.policy_book.proofs.Counting.{any_below-some}
use Rattle.policy_book.proofs.Keeping.{below_or_at}

-- ---- sets of steps

-- tests that agree pass the same steps
pub steps_same : (n : ℕ) (f g : ℕ → Bool) → ((s : ℕ) → s < n → f s ≡ g s) → steps_below n f ≡ steps_below n g
steps_same zero f g same = refl
steps_same (suc n) f g same = grind (arith, (steps_same n f g (λ s below. same s (omega (arith, below)))))

steps_length : (n : ℕ) (f : ℕ → Bool) → length (steps_below n f) ≡ STEP_LIMIT
unfolding no_steps
steps_length zero f = length-replicate STEP_LIMIT false
steps_length (suc n) f = grind (arith, length-set, (steps_length n f))

steps_beyond : (n t : ℕ) (f : ℕ → Bool) → n ≤ t → is_member (steps_below n f) t ≡ false
steps_beyond zero t f past = none_member t
steps_beyond (suc n) t f past = grind (arith, get_or-set_other, (steps_beyond n t f (omega (arith, past))))

-- a step below n is a member where it passes
pub steps_member : (n t : ℕ) (f : ℕ → Bool) → n ≤ STEP_LIMIT → t < n → is_member (steps_below n f) t ≡ f t
steps_member zero t f few below = absurd (omega (arith, below))
steps_member (suc n) t f few below = elim (below_or_at t n (omega (arith, below))) [
  | inl before ↦ earlier (f n) (λ e. absurd (omega (arith, e, before))) ∙ steps_member n t f (omega (arith, few)) before
  | inr here ↦ ap (is_member (steps_below (suc n) f)) here ∙ last (f n) ∙ ap f (sym here)
]
  where
    earlier : (b : Bool) → t ≢ n → is_member (if b then slice_set (steps_below n f) n true else steps_below n f) t ≡ is_member (steps_below n f) t
    earlier true apart = get_or-set_other (steps_below n f) n t true false apart
    earlier false apart = refl

    last : (b : Bool) → is_member (if b then slice_set (steps_below n f) n true else steps_below n f) n ≡ b
    last true = get_or-set_same (steps_below n f) n true false (omega (arith, few, steps_length n f))
    last false = steps_beyond n n f (omega arith)

-- ---- rows

-- a row put in place of another one
row_put : (rows : List (List ℕ)) (s t u : ℕ) (row : List ℕ) → s < length rows → t ≡ s → row_has (slice_set rows s row) t u ≡ has_user row u
row_put rows s t u row within here = grind (arith, get_or-set_same)

row_left : (rows : List (List ℕ)) (s t u : ℕ) (row : List ℕ) → t ≢ s → row_has (slice_set rows s row) t u ≡ row_has rows t u
row_left rows s t u row apart = ap (λ (w : List ℕ). has_user w u) (get_or-set_other rows s t row [] apart)

-- who is in one row as before is in the same rows
pub same_gathered : (rows : List (List ℕ)) (s u : ℕ) (before : List ℕ) → s < length rows → row_has rows s u ≡ has_user before u → steps_in
    (slice_set rows s before) u ≡ steps_in rows u
same_gathered rows s u before within same = grind (arith, steps_same, cases_eq, row_put, row_left, length-set)

-- a row that is put back
pub put_back : (rows : List (List ℕ)) (s : ℕ) (row before : List ℕ) (sets : List (List Bool)) → s < length rows → before ≡ slice_index_or rows s [] →
    AreGathered rows sets
    → AreGathered (slice_set (slice_set rows s row) s before) sets
put_back rows s row before sets within was gathered = grind (arith, length-set, steps_same, cases_eq, row_put, row_left)

-- rows that differ in one user, whose set is gathered again
pub gathered_again : (before after : List (List ℕ)) (u : ℕ) (sets : List (List Bool)) → length after ≡ length before
    → ((s v : ℕ) → s < length before → v ≢ u → row_has after s v ≡ row_has before s v) → AreGathered before sets →
    AreGathered after (slice_set sets u (steps_in after u))
gathered_again before after u sets long same gathered = grind (arith, length-set, cases_eq, get_or-set_same, get_or-set_other, steps_same)

-- rows in which a user was put right
pub gathered_settled : (roster : RosterShape) (flow : FlowShape) (u r : ℕ) (before after : List (List ℕ)) (sets : List (List Bool)) →
    IsSettled roster flow u r before after → AreGathered before sets
    → AreGathered after (slice_set sets u (steps_in after u))
gathered_settled roster flow u r before after sets settled gathered = grind (arith, gathered_again, eq_other)

-- a user who is put right in a row where the role is permitted
pub settled_row : (permitted : Bool) (may : ℕ → Bool) (u v : ℕ) (old : Bool) → permitted ≡ true →
    (if v == u then may u else old) ≡ (if v == u && permitted then may v else old)
settled_row permitted may u v old h = grind (arith, bool_cases, eq_back)

pub unsettled_row : (permitted : Bool) (may : ℕ → Bool) (u v : ℕ) (old : Bool) → permitted ≡ false → old ≡ (if v == u && permitted then may v else old)
unsettled_row permitted may u v old h = grind (arith, and-false)

-- ---- who is authorised

pub any_below-same : (n : ℕ) (f g : ℕ → Bool) → ((k : ℕ) → f k ≡ g k) → any_below n f ≡ any_below n g
any_below-same zero f g same = refl
any_below-same (suc n) f g same = ap (λ b. b || f n) (any_below-same n f g same) ∙ ap (λ b. any_below n g || b) (same n)

-- nobody is authorised for a step that the workflow does not have
pub none_beyond : (roster : RosterShape) (flow : FlowShape) (s u : ℕ) → IsFlow flow → length flow.steps ≤ s → may_do roster flow s u ≡ false
none_beyond roster flow s u kept past =
    not_true (may_do roster flow s u) (λ some.
    any_below-some ⊥ (length roster.roles) (λ r. set.contains roster.members (u, r) && set.contains flow.permits (r, s))
    (λ r both. let known = kept.permitted.each r s (and_both (set.contains roster.members (u, r)) (set.contains flow.permits (r, s)) both).1 in
    absurd (omega (arith, known.1, past))) some)

inserted_other : (m : Pairs) (k q : ℕ × ℕ) → q ≢ k → set.contains (set.insert m k) q ≡ set.contains m q
inserted_other m k q apart =
    set.contains-insert pair_cmp_total m k q
    ∙ elim (eq_by_cmp pair_cmp q k) as (λ b. eq_by_cmp pair_cmp q k ≡ b → (b || set.contains m q) ≡ set.contains m q) [
      | true ↦ λ e. absurd (apart (tells_apart pair_cmp-IsAntisymmetric q k e))
      | false ↦ λ e. refl
    ] refl

removed_other : (m : Pairs) (k q : ℕ × ℕ) → q ≢ k → set.contains (set.remove m k) q ≡ set.contains m q
removed_other m k q apart =
    set.contains-remove pair_cmp_total m k q
    ∙ elim (eq_by_cmp pair_cmp q k) as (λ b. eq_by_cmp pair_cmp q k ≡ b → (not b && set.contains m q) ≡ set.contains m q) [
      | true ↦ λ e. absurd (apart (tells_apart pair_cmp-IsAntisymmetric q k e))
      | false ↦ λ e. refl
    ] refl

-- a membership more or less changes nothing for other users and where the role is not permitted
abbrev pub DiffersAt : ℕ → ℕ → RosterShape → RosterShape → Type 0
DiffersAt u r before after =
    (flow : FlowShape) (s v : ℕ) → (v ≡ u → set.contains flow.permits (r, s) ≡ true → ⊥) → may_do after flow s v ≡ may_do before flow s v

members_matter : (u r : ℕ) (roster : RosterShape) (m : Pairs) → ((q : ℕ × ℕ) → q ≢ (u, r) → set.contains m q ≡ set.contains roster.members q) →
    DiffersAt u r roster (record roster { members = m })
members_matter u r roster m others = grind (arith, any_below-same, bool_cases, and-false)

pub enrolled_differs : (u r : ℕ) (roster : RosterShape) → DiffersAt u r roster (record roster { members = set.insert roster.members (u, r) })
enrolled_differs u r roster = members_matter u r roster (set.insert roster.members (u, r)) (λ q apart. inserted_other roster.members (u, r) q apart)

pub dismissed_differs : (u r : ℕ) (roster : RosterShape) → DiffersAt u r roster (record roster { members = set.remove roster.members (u, r) })
dismissed_differs u r roster = members_matter u r roster (set.remove roster.members (u, r)) (λ q apart. removed_other roster.members (u, r) q apart)

-- other permissions for one step change nothing for the other steps
abbrev pub PermitsAt : ℕ → FlowShape → Pairs → Type 0
PermitsAt s flow permits = (r t : ℕ) → t ≢ s → set.contains permits (r, t) ≡ set.contains flow.permits (r, t)

pub permitted_at : (flow : FlowShape) (r s : ℕ) → PermitsAt s flow (set.insert flow.permits (r, s))
permitted_at flow r s q t apart = inserted_other flow.permits (r, s) (q, t) (λ e. apart (ap (λ (p : ℕ × ℕ). p.1) e))

pub forbidden_at : (flow : FlowShape) (r s : ℕ) → PermitsAt s flow (set.remove flow.permits (r, s))
forbidden_at flow r s q t apart = removed_other flow.permits (r, s) (q, t) (λ e. apart (ap (λ (p : ℕ × ℕ). p.1) e))

others_may : (roster : RosterShape) (flow : FlowShape) (permits : Pairs) (s t v : ℕ) → PermitsAt s flow permits → t ≢ s →
    may_do roster (record flow { permits = permits }) t v ≡ may_do roster flow t v
others_may roster flow permits s t v same apart = grind (arith, any_below-same)

-- ---- what is kept of each workflow

duties_settled : (before after : RosterShape) (flow : FlowShape) (u r : ℕ) (d e : DutyShape) → after.users ≡ before.users → DiffersAt u r before after →
    AreDuties before flow d
    → e.users ≡ d.users → IsSettled after flow u r d.rows e.rows → AreDuties after flow e
duties_settled before after flow u r d e people differs old many settled = grind (arith, bool_cases, eq_is, differ)

-- after a change of one user's roles
pub kept_settled : (before after : RosterShape) (flows : List WorkflowShape) (u r : ℕ) (ds es : List DutyShape) → after.users ≡ before.users →
    DiffersAt u r before after
    → AreKept before flows ds → AreSettled after flows u r ds es → AreKept after flows es
kept_settled before after flows u r ds es people differs old settled = grind (arith, duties_settled)

-- with sets for more users
pub kept_grown : (roster : RosterShape) (flows : List WorkflowShape) (ds es : List DutyShape) → AreKept roster flows ds → AreGrown ds es →
    AreKept roster flows es
kept_grown roster flows ds es old grown = grind arith

-- with one user more, where there is room for the user's sets
pub kept_with_user : (roster : RosterShape) (name : List ℕ) (flows : List WorkflowShape) (ds : List DutyShape) → AreKept roster flows ds
    → ((f : ℕ) → f < length ds → length roster.users < (duties_at ds f).users) → AreKept (record roster { users = roster.users ++ name ∷ [] }) flows ds
kept_with_user roster name flows ds old room = grind (arith, length-append)

-- with another workflow at a number, for which nothing else is right
pub kept_with_flow : (roster : RosterShape) (flows : List WorkflowShape) (ds : List DutyShape) (f : ℕ) (w : WorkflowShape) (d : DutyShape) →
    f < length flows → AreKept roster flows ds
    → AreDuties roster w.flow d → AreKept roster (slice_set flows f w) (slice_set ds f d)
kept_with_flow roster flows ds f w d within old new = grind (arith, length-set, cases_eq, get_or-set_same, get_or-set_other)

-- with a workflow that has the same steps and permissions
pub kept_with_same : (roster : RosterShape) (flows : List WorkflowShape) (ds : List DutyShape) (f : ℕ) (w : WorkflowShape) → f < length flows →
    AreKept roster flows ds
    → w.flow ≡ (slice_index_or flows f no_workflow).flow → AreKept roster (slice_set flows f w) ds
kept_with_same roster flows ds f w within old same = grind (arith, length-set, cases_eq, get_or-set_same, get_or-set_other)

-- with one workflow more
pub kept_with_more : (roster : RosterShape) (flows : List WorkflowShape) (ds : List DutyShape) (w : WorkflowShape) (d : DutyShape) →
    AreKept roster flows ds → AreDuties roster w.flow d
    → AreKept roster (flows ++ w ∷ []) (ds ++ d ∷ [])
kept_with_more roster flows ds w d old new = grind (arith, length-append, below_or_at, get_or_append_left, get_or_push)

-- what is kept of a workflow, with other permissions for one step and that step's row made anew
pub duties_with_row : (roster : RosterShape) (flow : FlowShape) (permits : Pairs) (s : ℕ) (row : List ℕ) (d : DutyShape) → s < length d.rows →
    AreDuties roster flow d → PermitsAt s flow permits
    → ((u : ℕ) → has_user row u ≡ may_do roster (record flow { permits = permits }) s u) →
    AreDuties roster (record flow { permits = permits }) (record d { rows = slice_set d.rows s row })
duties_with_row roster flow permits s row d within old same new = grind (arith, length-set, cases_eq, row_put, row_left, others_may)

-- the same in a policy's workflows
pub kept_with_permits : (roster : RosterShape) (flows : List WorkflowShape) (ds : List DutyShape) (f s : ℕ) (w : WorkflowShape) (d : DutyShape)
    (permits : Pairs) (row : List ℕ)
    → f < length flows → s < length w.flow.steps → AreKept roster flows ds → w ≡ slice_index_or flows f w → d ≡ slice_index_or ds f d →
    PermitsAt s w.flow permits
    → ((u : ℕ) → has_user row u ≡ may_do roster (record w.flow { permits = permits }) s u)
    → AreKept roster (slice_set flows f (record w { flow = record w.flow { permits = permits } })) (slice_set ds f (record d { rows = slice_set d.rows s row }))
kept_with_permits roster flows ds f s w d permits row within step old w_is d_is same new =
    let place : f < length ds = omega (arith, within, old.count) in
    let right : AreDuties roster w.flow d =
    subst (λ (x : DutyShape). AreDuties roster w.flow x) (sym (d_is ∙ get_or_default ds f d no_duties place))
    (subst (λ (x : WorkflowShape). AreDuties roster x.flow (duties_at ds f)) (sym (w_is ∙ get_or_default flows f w no_workflow within)) (old.each f within)) in
    kept_with_flow roster flows ds f (record w { flow = record w.flow { permits = permits } }) (record d { rows = slice_set d.rows s row }) within old
    (duties_with_row roster w.flow permits s row d (omega (arith, step, right.count)) right same new)
