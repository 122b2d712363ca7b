-- The parts of replies stand for something, and nest little.
use Rattle.entry_laws.proofs.Common.{◌≡◌, ℕ, zero, suc, ◌+◌, ◌<◌, ◌≤◌, Bool, List, [], ◌∷◌, length, map, Option, None, Some, if◌then◌else◌, refl, sym, ap}
use Rattle.entry_laws.proofs.Common.{subst, ◌∙◌, arith, All, length-append, length-set, depth, items_depth, items_of, ROLE_LIMIT, STEP_LIMIT, user_of}
use Rattle.entry_laws.proofs.Common.{StepState, Free, Held, Finished, Phase, Rule, PolicyShape, IsSoundPolicy, flow_at, problem_of, IsValidPlan, Problem}
use Rattle.entry_laws.proofs.Common.{CaseShape, assigned_of, state_at, assigned_with, first_falsified, permitted_roles, Bad, IsOfPolicy, AllBelow, passing_all}
use Rattle.entry_laws.proofs.Common.{user_known, bad_data, phase_data, seen_data, state_data, IsBad, HasFewSteps}
use Rattle.std.proofs.Common.{slice_index_or}
use Rattle.std.specs.FinSet as set
use Rattle.std.proofs.lemmas.List.{length-map, length-replicate}
use Rattle.wf_names.specs.Padded.{padded}
use Rattle.constraint_forms.specs.Assign.{no_users}
use Rattle.constraint_forms.specs.Rules.{Relating, is_falsified}
use Rattle.basics.specs.Laws.Pairs.{Pairs}
use Rattle.policy_book.specs.Laws.Refuting.{passing}
use Rattle.certificate_check.proofs.Assigned.{none_not_some, same_some}
use Rattle.case_record.specs.Steps.{all_steps}
use Rattle.case_record.specs.Order.{first_missing_from}
use Rattle.wf_talk.specs.Jobs.{IsNamedBad}
use Rattle.wf_board.proofs.Below.{planned_below}
use Rattle.entry_reader.specs.Laws.Within.{IsPlan, IsRole, IsState}
use Rattle.entry_laws.proofs.Trees.{IsProblemOf}

-- ---- lists

all_from : (n : ℕ) (us : List ℕ) → AllBelow n us → All (λ u. u < n) us
all_from n [] below k d lt = absurd (omega (arith, lt))
all_from n (u ∷ us) below h3 d lt = grind (arith, (all_from n us))

-- ---- plans

-- the users of a valid plan are users of the policy, as many as the workflow has steps
pub plan_fits : (p : PolicyShape) (f : ℕ) (pr : Problem) (a : List (Option ℕ)) (finished : List Bool) (plan : List ℕ) → IsProblemOf p f pr →
    pr.steps ≤ STEP_LIMIT
    → IsValidPlan pr a finished plan → IsPlan p plan
plan_fits p f pr a finished plan of few valid = grind (arith, all_from, planned_below)

-- ---- problems and assignments

-- what a policy says of one of its workflows
pub problem_fits : (p : PolicyShape) (f : ℕ) → IsSoundPolicy p → f < length p.flows → IsProblemOf p f (problem_of p f)
problem_fits p f sound known = grind arith

pub no_users_long : length no_users ≡ STEP_LIMIT
unfolding no_users
no_users_long = length-replicate {A = Option ℕ} STEP_LIMIT None

steps_long : (states : List StepState) → length states ≤ STEP_LIMIT → length (all_steps states) ≡ STEP_LIMIT
unfolding padded
steps_long states few = length-append states _ ∙ ap (λ n. length states + n) (length-replicate _ Free) ∙ omega (arith, few)

-- an assignment has a place for each step that there may be
pub assigned_long : (c : CaseShape) → length c.states ≤ STEP_LIMIT → length (assigned_of c) ≡ STEP_LIMIT
assigned_long c few = length-map (all_steps c.states) user_of ∙ steps_long c.states few

pub given_long : (c : CaseShape) (t u : ℕ) → length c.states ≤ STEP_LIMIT → length (assigned_with c t u) ≡ STEP_LIMIT
given_long c t u few = length-set (assigned_of c) t (Some u) ∙ assigned_long c few

-- a case of a policy has no more steps than the limit
pub case_few : (p : PolicyShape) (c : CaseShape) → HasFewSteps p → IsOfPolicy p c → length c.states ≤ STEP_LIMIT
case_few p c few of = subst (λ n. n ≤ STEP_LIMIT) (sym of.steps) (few c.flow of.flow)

-- ---- where steps stand

state_stands : (p : PolicyShape) (x : StepState) → ((u : ℕ) → user_of x ≡ Some u → u < length p.roster.users) → IsState p x
state_stands p Free known = tt
state_stands p (Held u) known = known u refl
state_stands p (Finished u) known = known u refl

pub step_stands : (p : PolicyShape) (c : CaseShape) (t : ℕ) → IsOfPolicy p c → IsState p (state_at c t)
step_stands p c t of = state_stands p (state_at c t) (λ u is. user_known p c t u of is)

states_stand : (p : PolicyShape) (states : List StepState) → ((s u : ℕ) → user_of (slice_index_or states s Free) ≡ Some u → u < length p.roster.users) →
    All (IsState p) states
states_stand p [] known k d lt = absurd (omega (arith, lt))
states_stand p (x ∷ xs) known zero d lt = state_stands p x (λ u is. known 0 u is)
states_stand p (x ∷ xs) known (suc k) d lt = states_stand p xs (λ s u is. known (suc s) u is) k d (omega (arith, lt))

pub case_stands : (p : PolicyShape) (c : CaseShape) → IsOfPolicy p c → All (IsState p) c.states
case_stands p c of = states_stand p c.states (λ s u is. user_known p c s u of is)

pub state_nests : (p : PolicyShape) (x : StepState) → depth (state_data p x) ≤ 1
state_nests p x = grind arith

seen_nests : (p : PolicyShape) (x : StepState) → depth (seen_data p x) ≤ 1
seen_nests p x = grind arith

pub states_nest : (p : PolicyShape) (states : List StepState) → items_depth (items_of (map (seen_data p) states)) ≤ 1
states_nest p [] = omega arith
states_nest p (x ∷ xs) = let here = seen_nests p x in let rest = states_nest p xs in omega (arith, here, rest)

pub phase_flat : (phase : Phase) → depth (phase_data phase) ≡ 0
phase_flat phase = grind arith

pub bad_stands : (b : Bad) → IsNamedBad b → IsBad b
bad_stands b named = grind arith

pub bad_nests : (b : Bad) → depth (bad_data b) ≤ 1
bad_nests b = grind arith

-- ---- causes

pub roles_stand : (p : PolicyShape) (f s : ℕ) → All (IsRole p) (permitted_roles p f s)
roles_stand p f s = grind (arith, all_from, passing_all)

passing_few : (test : ℕ → Bool) (k count : ℕ) → length (passing test k count) ≤ count
passing_few test k zero = omega arith
passing_few test k (suc count) = grind (arith, (passing_few test (k + 1) count))

pub roles_few : (p : PolicyShape) (f t : ℕ) → IsSoundPolicy p → length (permitted_roles p f t) ≤ ROLE_LIMIT
roles_few p f t sound = let all = sound.roles in omega (arith, all, passing_few (λ r. set.contains (flow_at p f).flow.permits (r, t)) 0 (length p.roster.roles))

-- a first number: this one, or one of a rest
first_below : (b : Bool) (k n v : ℕ) (o : Option ℕ) → k < n → (o ≡ Some v → v < n) → (if b then Some k else o) ≡ Some v → v < n
first_below b k n v o here rest is = grind (arith, same_some)

pub falsified_there : (related : Relating) (users : ℕ → Option ℕ) (k : ℕ) (rules : List Rule) (v : ℕ) → first_falsified related users k rules ≡ Some v →
    v < k + length rules
falsified_there related users k [] v is = none_not_some v is
falsified_there related users k (r ∷ rs) v is =
    first_below (is_falsified related r users) k (k + length (r ∷ rs)) v (first_falsified related users (k + 1) rs) (omega arith)
    (λ later. let below = falsified_there related users (k + 1) rs v later in omega (arith, below)) is

pub missing_there : (order : Pairs) (s t : ℕ) (states : List StepState) (v : ℕ) → first_missing_from order s t states ≡ Some v → v < t + length states
missing_there order s t [] v is = none_not_some v is
missing_there order s t (x ∷ xs) v is =
    first_below _ t (t + length (x ∷ xs)) v (first_missing_from order s (t + 1) xs) (omega arith)
    (λ later. let below = missing_there order s (t + 1) xs v later in omega (arith, below)) is
