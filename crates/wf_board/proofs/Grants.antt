-- A claim is granted exactly where its user is authorised, its step is ready, and its case can then be completed.
use Rattle.wf_board.proofs.Common.{◌≡◌, ℕ, suc, ◌+◌, ◌<◌, Bool, true, false, ◌&&◌, List, [], ◌∷◌, length, Option, None, Some, if◌then◌else◌, ◌⊎◌, refl, sym, ap}
use Rattle.wf_board.proofs.Common.{subst, ◌∙◌, arith, user_of, StepState, Free, Rule, user_at, Relating, PolicyShape}
use Rattle.wf_board.proofs.Common.{IsSoundPolicy, flow_at, is_authorised, problem_of, AreAssigned, IsCompletable, refutes_soundly, CaseShape, assigned_of}
use Rattle.wf_board.proofs.Common.{finished_of, state_at, Row, plan_of, Reply, Denial, assigned_with, first_cause, unless, Deed, Duty, Book, State, decision_of}
use Rattle.wf_board.proofs.Common.{unless_denied, Answers, CanBeCompleted, AreFound, ArePlanned}
use Rattle.std.proofs.Common.{nat_lt, option_map, is_none}
use Rattle.std.proofs.Common.{slice_get}
use Rattle.std.specs.Prelude.{◌↔◌, ◌||◌}
use Rattle.std.specs.List.{list_any}
use Rattle.basics.proofs.Booleans.{and_both}
use Rattle.constraint_forms.specs.Assign.{planned}
use Rattle.constraint_forms.specs.Rules.{is_falsified, names}
use Rattle.constraint_forms.proofs.RuleLaws.{falsified_by_named}
use Rattle.refutation_tree.specs.Tree.{rule}
use Rattle.policy_book.specs.Laws.Refuting.{is_broken}
use Rattle.certificate_check.proofs.Assigned.{given_other}
use Rattle.case_record.specs.Order.{first_missing, is_free, is_ready}
use Rattle.grant_table.specs.Cases.{row_at}
use Rattle.wf_talk.specs.declared.request.Request.TheVariants as request
use Rattle.wf_talk.specs.declared.request.Ask.TheVariants as ask
use Rattle.wf_talk.specs.declared.reply.Reply.TheVariants as reply
use Rattle.wf_talk.specs.declared.reply.Denial.TheVariants as denial
use Rattle.admin_edits.specs.ClaimCauses.{first_falsified, first_of, permitted_roles}
use Rattle.wf_board.specs.declared.deed.Deed.TheVariants as deed
use Rattle.wf_board.specs.Laws.Grants.{AreNamed, MayBeGranted}
use Rattle.wf_board.specs.Laws.{GrantsAreExact}
use Rattle.wf_board.proofs.Giving.{kept_valid, may_planned, valid_with}
use Rattle.wf_board.proofs.Told.{place_within}
use Rattle.wf_board.proofs.Exact.{claimed_assigned, claims_are_exact, finished_assigned, well_formed}

none_all : (a b c d : Option Denial) → a ≡ None → b ≡ None → c ≡ None → d ≡ None → first_of (a ∷ b ∷ c ∷ d ∷ []) ≡ None
none_all a b c d h i j k = rw (h, i, j, k) refl

users_of_free : (x : StepState) (make : ℕ → Denial) → is_free x ≡ true → option_map make (user_of x) ≡ None
users_of_free x make h = grind arith

free_is : (x : StepState) → is_free x ≡ true → x ≡ Free
free_is x h = grind arith

made_of_nothing : (o : Option ℕ) (make : ℕ → Denial) → is_none o ≡ true → option_map make o ≡ None
made_of_nothing o make h = grind arith

passed : (b : Bool) (d : Denial) → b ≡ true → unless b d ≡ None
passed b d h = grind arith

-- ---- a falsified rule

-- the rule with a number, of rules of which the first has the number k, is falsified
record IsFalsifiedAt (related : Relating) (users : ℕ → Option ℕ) (k m : ℕ) (rules : List Rule) : Type 0 where
  place : ℕ
  number : m ≡ k + place
  the_rule : Rule
  there : slice_get rules place ≡ Some the_rule
  falsified : is_falsified related the_rule users ≡ true

same_number : (k m : ℕ) → Some k ≡ Some m → m ≡ k + 0
same_number k m h = let is : k ≡ m = cc in omega (arith, is)

falsified_found : (related : Relating) (users : ℕ → Option ℕ) (k m : ℕ) (rules : List Rule) → first_falsified related users k rules ≡ Some m →
    IsFalsifiedAt related users k m rules
falsified_found related users k m [] h = cc
falsified_found related users k m (r ∷ rs) h = at_first (is_falsified related r users) refl h (falsified_found related users (k + 1) m rs)
  where
    later : IsFalsifiedAt related users (k + 1) m rs → IsFalsifiedAt related users k m (r ∷ rs)
    later found = record {
      place = suc found.place;
      number = omega (arith, found.number);
      the_rule = found.the_rule;
      there = found.there;
      falsified = grind arith;
    }

    at_first : (b : Bool) → is_falsified related r users ≡ b → (if b then Some k else first_falsified related users (k + 1) rs) ≡ Some m →
        (first_falsified related users (k + 1) rs ≡ Some m → IsFalsifiedAt related users (k + 1) m rs) → IsFalsifiedAt related users k m (r ∷ rs)
    at_first true is found rest = record { place = 0; number = same_number k m found; the_rule = r; there = refl; falsified = is }
    at_first false is found rest = later (rest found)

-- where a rule is falsified nothing can be completed
none_falsified : (p : PolicyShape) (c : CaseShape) (a : List (Option ℕ)) → IsSoundPolicy p → c.flow < length p.flows → AreAssigned (finished_of c) a →
    IsCompletable (problem_of p c.flow) a (finished_of c) →
    is_none (first_falsified (problem_of p c.flow).related (user_at a) 0 (flow_at p c.flow).rules) ≡ true
none_falsified p c a sound known assigned complete = by_search (first_falsified (problem_of p c.flow).related (user_at a) 0 (flow_at p c.flow).rules) refl
  where
    by_search : (o : Option ℕ) → first_falsified (problem_of p c.flow).related (user_at a) 0 (flow_at p c.flow).rules ≡ o → is_none o ≡ true
    by_search None is = refl
    by_search (Some k) is =
        let found = falsified_found (problem_of p c.flow).related (user_at a) 0 k (flow_at p c.flow).rules is in
        let broken : is_broken (problem_of p c.flow) a (slice_get (flow_at p c.flow).rules found.place) ≡ true = rw found.there found.falsified in
        absurd (refutes_soundly (problem_of p c.flow) a (finished_of c) (rule found.place) (well_formed p c.flow sound known) assigned broken complete)

no_rule_falsified : (p : PolicyShape) (c : CaseShape) (t u : ℕ) → IsSoundPolicy p → c.flow < length p.flows → state_at c t ≡ Free →
    IsCompletable (problem_of p c.flow) (assigned_with c t u) (finished_of c) →
    is_none (first_falsified (problem_of p c.flow).related (user_at (assigned_with c t u)) 0 (flow_at p c.flow).rules) ≡ true
no_rule_falsified p c t u sound known free complete = none_falsified p c (assigned_with c t u) sound known (claimed_assigned c t u free) complete

-- ---- the decision

-- a claim of a step of a case
abbrev claim_of : ℕ → CaseShape → ℕ → ℕ → Deed
claim_of n c t u = deed.Claim record { number = n; case = c; step = t; user = u }

-- what a claim is decided as, once its case, step and user are found
decided_claim : (b : Book) (n : ℕ) (step user : List ℕ) (c : CaseShape) (t u : ℕ) → AreNamed b n step user c t u →
    decision_of b (ask.Request (request.Claim n step user)) ≡ unless_denied (claim_of n c t u) (first_cause b.policy c t u)
decided_claim b n step user c t u named = grind arith

-- no cause is against a claim that may be granted
granted_none : (p : PolicyShape) (c : CaseShape) (t u : ℕ) → IsSoundPolicy p → c.flow < length p.flows → MayBeGranted p c t u → first_cause p c t u ≡ None
granted_none p c t u sound known may =
    let ready = and_both (nat_lt t (length c.states) && is_free (state_at c t)) (is_none (first_missing c (flow_at p c.flow).flow.order t)) may.ready in
    let free = (and_both (nat_lt t (length c.states)) (is_free (state_at c t)) ready.0).1 in
    none_all _ _ _ _
    (users_of_free (state_at c t) denial.Taken free)
    (made_of_nothing (first_missing c (flow_at p c.flow).flow.order t) (denial.Order c.flow) ready.1)
    (passed (is_authorised p c.flow t u) (denial.Role (permitted_roles p c.flow t)) may.authorised)
    (made_of_nothing (first_falsified (problem_of p c.flow).related (user_at (assigned_with c t u)) 0 (flow_at p c.flow).rules) denial.Rule
    (no_rule_falsified p c t u sound known (free_is (state_at c t) free) may.completable))

none_later : (a b : Bool) → a || b ≡ false → b ≡ false
none_later a b h = grind arith

-- a rule that does not name the step is falsified where it was before the step is given, and each that does is looked at
still_none : (related : Relating) (c : CaseShape) (t u k : ℕ) (rules : List Rule) →
    list_any (λ r. names r t && is_falsified related r (user_at (assigned_with c t u))) rules ≡ false
    → first_falsified related (user_at (assigned_of c)) k rules ≡ None → first_falsified related (user_at (assigned_with c t u)) k rules ≡ None
still_none related c t u k [] quiet before = refl
still_none related c t u k (r ∷ rs) quiet before = grind (arith, falsified_by_named, given_other, none_later, (still_none related c t u (k + 1) rs))

nothing : (o : Option ℕ) → is_none o ≡ true → o ≡ None
nothing o h = grind arith

-- no cause is against the claim of a ready step, where the case can be completed and no rule that names the step is falsified
pub clear_none : (p : PolicyShape) (c : CaseShape) (t u : ℕ) → IsSoundPolicy p → c.flow < length p.flows → CanBeCompleted p c
    → is_ready c (flow_at p c.flow).flow.order t ≡ true → is_authorised p c.flow t u ≡ true
    → list_any (λ r. names r t && is_falsified (problem_of p c.flow).related r (user_at (assigned_with c t u))) (flow_at p c.flow).rules ≡ false →
    first_cause p c t u ≡ None
clear_none p c t u sound known complete ready may quiet =
    let tests = and_both (nat_lt t (length c.states) && is_free (state_at c t)) (is_none (first_missing c (flow_at p c.flow).flow.order t)) ready in
    let free = (and_both (nat_lt t (length c.states)) (is_free (state_at c t)) tests.0).1 in
    let before = nothing _ (none_falsified p c (assigned_of c) sound known (finished_assigned c) complete) in
    none_all _ _ _ _
    (users_of_free (state_at c t) denial.Taken free)
    (made_of_nothing (first_missing c (flow_at p c.flow).flow.order t) (denial.Order c.flow) tests.1)
    (passed (is_authorised p c.flow t u) (denial.Role (permitted_roles p c.flow t)) may)
    (ap (option_map denial.Rule) (still_none (problem_of p c.flow).related c t u 0 (flow_at p c.flow).rules quiet before))

-- no cause is against the claim of a ready step that the kept plan gives to the user
pub planned_none : (p : PolicyShape) (rows : List Row) (d : Duty) (plan : List ℕ) → IsSoundPolicy p → ArePlanned p rows → AreFound p rows d →
    is_ready d.case (flow_at p d.case.flow).flow.order d.step ≡ true → plan_of (row_at d.number rows) ≡ Some plan → planned plan d.step ≡ d.user →
    first_cause p d.case d.step d.user ≡ None
planned_none p rows d plan sound are found ready kept gives =
    let c = d.case in
    let t = d.step in
    let u = d.user in
    let tests = and_both (nat_lt t (length c.states) && is_free (state_at c t)) (is_none (first_missing c (flow_at p c.flow).flow.order t)) ready in
    let free = (and_both (nat_lt t (length c.states)) (is_free (state_at c t)) tests.0).1 in
    let valid = kept_valid p rows d.number c plan are found.case.found kept in
    none_all _ _ _ _
    (users_of_free (state_at c t) denial.Taken free)
    (made_of_nothing (first_missing c (flow_at p c.flow).flow.order t) (denial.Order c.flow) tests.1)
    (passed (is_authorised p c.flow t u) (denial.Role (permitted_roles p c.flow t))
    (may_planned p rows d plan found (free_is (state_at c t) free) gives valid))
    (made_of_nothing (first_falsified (problem_of p c.flow).related (user_at (assigned_with c t u)) 0 (flow_at p c.flow).rules) denial.Rule
    (no_rule_falsified p c t u sound found.case.known.flow (free_is (state_at c t) free)
    (plan, valid_with (problem_of p c.flow) c t u plan gives valid)))

-- where there is no cause, the user is authorised and the step ready
none_granted : (s : State) (c : CaseShape) (t u : ℕ) → t < length c.states → first_cause s.book.policy c t u ≡ None →
    IsCompletable (problem_of s.book.policy c.flow) (assigned_with c t u) (finished_of c) → MayBeGranted s.book.policy c t u
none_granted s c t u below none complete = grind arith

no_grant : (d : Denial) (given : Reply) (plan : List ℕ) → (given ≡ reply.Denied d) ⊎ (given ≡ reply.NoMemory) → given ≡ reply.Granted plan → ⊥
no_grant d given plan h3 granted = grind arith

pub grants_are_exact : GrantsAreExact
grants_are_exact s n step user c t u given sound named is_step memory = by_cause (first_cause s.book.policy c t u) refl
  where
    decided : decision_of s.book (ask.Request (request.Claim n step user)) ≡ unless_denied (claim_of n c t u) (first_cause s.book.policy c t u)
    decided = decided_claim s.book n step user c t u named

    known : c.flow < length s.book.policy.flows
    known = (sound.cases n c named.its_case).flow

    below : t < length c.states
    below = subst (λ k. t < k) (sym (sound.cases n c named.its_case).steps) (place_within (flow_at s.book.policy c.flow).flow.steps step t named.its_step)

    by_cause : (o : Option Denial) → first_cause s.book.policy c t u ≡ o → ((plan : List ℕ) × (given ≡ reply.Granted plan)) ↔ MayBeGranted s.book.policy c t u
    by_cause None none =
        let exact = claims_are_exact s (ask.Request (request.Claim n step user)) given record { number = n; case = c; step = t; user = u } sound
        (decided ∙ ap (unless_denied (claim_of n c t u)) none) is_step memory in
        (λ granted. none_granted s c t u below none (exact.0 granted), λ may. exact.1 may.completable)
    by_cause (Some d) cause =
        let denied = subst (λ r. Answers s r given) (decided ∙ ap (unless_denied (claim_of n c t u)) cause) is_step in (
          λ granted. absurd (no_grant d given granted.0 denied granted.1),
          λ may. absurd (none_apart d (sym (granted_none s.book.policy c t u sound.policy known may) ∙ cause)),
        )
      where
        none_apart : (e : Denial) → None ≡ Some e → ⊥
        none_apart e h = cc
