-- What is decided on in a state: a deed of what is asked, or a denial that stands for something, nests little and lists few roles.
use Rattle.entry_laws.proofs.Common.{◌≡◌, ℕ, ◌<◌, ◌≤◌, List, length, Option, None, Some, Result, Ok, refl, arith, depth, user_of, user_at, PolicyShape, flow_at}
use Rattle.entry_laws.proofs.Common.{problem_of, CaseShape, state_at, Edit, Missing, Ask, Denial, assigned_with, first_falsified, permitted_roles, Amendment}
use Rattle.entry_laws.proofs.Common.{amendment_of, Deed, State, numbered_case, cause_full, decision_of, IsOfPolicy, IsSoundState, Fares, user_known}
use Rattle.entry_laws.proofs.Common.{denial_data, IsDenial, concerned, names_flat, flows_of}
use Rattle.basics.specs.Laws.Reading.{check, or_fault}
use Rattle.case_record.specs.Order.{first_missing}
use Rattle.wf_talk.specs.declared.request.Request.TheVariants as request
use Rattle.wf_talk.specs.declared.request.Ask.TheVariants as ask
use Rattle.wf_talk.specs.declared.reply.Denial.TheVariants as denial
use Rattle.admin_edits.specs.ClaimCauses.{first_cause}
use Rattle.admin_edits.specs.declared.fault.EditCause.{EditCause}
use Rattle.admin_edits.specs.Laws.Edits.{is_admin}
use Rattle.wf_board.specs.declared.deed.Duty.{Duty}
use Rattle.wf_board.specs.declared.deed.Deed.TheVariants as deed
use Rattle.wf_board.specs.Laws.States.{flow_named, step_named, user_named}
use Rattle.wf_board.specs.Resolve.{edit_denial, on_edit, on_step, open_case_at, resolve}
use Rattle.wf_board.specs.Decisions.{cause_aside}
use Rattle.wf_board.proofs.Told.{place_within}
use Rattle.wf_board.proofs.Faring.{IsCauseSo, check_fares, four_so, map_so, or_fares, then_fares, unless_fares, unless_so}
use Rattle.entry_laws.proofs.Parts.{falsified_there, missing_there, roles_few, roles_stand, state_nests, step_stands}
use Rattle.entry_laws.proofs.Short.{HasFewRoles}

-- ---- what is known

-- a denial stands for something, nests little, and lists no more roles than there can be
abbrev pub FitsDenial : PolicyShape → (ℕ → Option ℕ) → Option ℕ → Denial → Type 0
FitsDenial p flows o d = IsDenial p flows o d × (depth (denial_data p d) ≤ 80) × HasFewRoles d

-- a case of the policy, whose workflow is concerned
abbrev pub IsOn : State → Option ℕ → CaseShape → Type 0
IsOn s o c = (o ≡ Some c.flow) × IsOfPolicy s.book.policy c

-- a change is what is asked
pub record IsChangeFor (p : PolicyShape) (what : Ask) (a : Amendment) : Type 0 where
  pub by : List ℕ
  pub edit : Edit
  pub asked : what ≡ ask.Request (request.Change by edit)
  pub found : amendment_of p by edit ≡ Ok a

-- the workflow that is concerned
abbrev pub concern : State → Ask → Option ℕ
concern s what = concerned s.book.policy (flows_of s) what

-- what a deed names is of what is concerned
abbrev pub IsDeedFor : State → Ask → Deed → Type 0
IsDeedFor s what (deed.Open f) = (concern s what ≡ Some f) × (f < length s.book.policy.flow_names)
IsDeedFor s what (deed.Claim d) = IsOn s (concern s what) d.case
IsDeedFor s what (deed.Finish d) = IsOn s (concern s what) d.case
IsDeedFor s what (deed.GiveBack d) = IsOn s (concern s what) d.case
IsDeedFor s what (deed.Release n c t) = IsOn s (concern s what) c
IsDeedFor s what (deed.Change a) = IsChangeFor s.book.policy what a
IsDeedFor s what (deed.Show c) = IsOfPolicy s.book.policy c
IsDeedFor s what (deed.TurnAway b) = what ≡ ask.Bad b
IsDeedFor s what given = Unit {0}

-- a denial of what concerns this workflow
abbrev Fits : State → Option ℕ → Denial → Type 0
Fits s o d = FitsDenial s.book.policy (flows_of s) o d

unknown_nests : (p : PolicyShape) (what : Missing) → depth (denial_data p (denial.Unknown what)) ≤ 80
unknown_nests p what = grind arith

fault_fits : (p : PolicyShape) (flows : ℕ → Option ℕ) (o : Option ℕ) (why : EditCause) → FitsDenial p flows o (edit_denial why)
fault_fits p flows o why = grind (arith, unknown_nests)

edit_fares : (s : State) (what : Ask) (make : Amendment → Deed) (r : Result Amendment EditCause) → ((a : Amendment) → r ≡ Ok a → IsDeedFor s what (make a))
    → Fares (IsDeedFor s what) (Fits s (concern s what)) (on_edit make r)
edit_fares s what make r made = grind (arith, fault_fits)

-- ---- what a line asks

case_fares : (s : State) (n : ℕ) → IsSoundState s → Fares (IsOn s (flows_of s n)) (Fits s (flows_of s n)) (open_case_at s.book n)
case_fares s n sound = grind (arith, then_fares, or_fares, check_fares)

step_fares : (s : State) (what : Ask) (make : Duty → Deed) (n : ℕ) (step user : List ℕ) → IsSoundState s
    → ((d : Duty) → IsOn s (flows_of s n) d.case → IsDeedFor s what (make d))
    → Fares (IsDeedFor s what) (Fits s (flows_of s n)) (on_step make s.book n step user)
step_fares s what make n step user sound made = grind arith

resolve_fares : (s : State) (what : Ask) → IsSoundState s → Fares (IsDeedFor s what) (Fits s (concern s what)) (resolve s.book what)
resolve_fares s (ask.Request (request.OpenCase flow)) sound =
    let o = flow_named s.book flow in
    then_fares (λ f. flow_named s.book flow ≡ Some f) (IsDeedFor s (ask.Request (request.OpenCase flow))) (Fits s o)
    (or_fault (flow_named s.book flow) denial.NoFlow) _
    (or_fares (Fits s o) (flow_named s.book flow) denial.NoFlow (tt, omega arith, tt)) (λ f is. (is, place_within s.book.policy.flow_names flow f is))
resolve_fares s (ask.Request (request.Claim n step user)) sound =
    step_fares s (ask.Request (request.Claim n step user)) deed.Claim n step user sound (λ d of. of)
resolve_fares s (ask.Request (request.Finish n step user)) sound =
    step_fares s (ask.Request (request.Finish n step user)) deed.Finish n step user sound (λ d of. of)
resolve_fares s (ask.Request (request.GiveBack n step user)) sound =
    step_fares s (ask.Request (request.GiveBack n step user)) deed.GiveBack n step user sound (λ d of. of)
resolve_fares s (ask.Request (request.Release by n step)) sound =
    let P = IsDeedFor s (ask.Request (request.Release by n step)) in
    let Q = Fits s (flows_of s n) in
    then_fares (λ _. Unit {0}) P Q (check (is_admin s.book.policy by) denial.NotAdmin) _
    (check_fares Q (is_admin s.book.policy by) denial.NotAdmin (tt, omega arith, tt))
    (λ _ _. then_fares (IsOn s (flows_of s n)) P Q (open_case_at s.book n) _ (case_fares s n sound)
    (λ c of. then_fares (λ t. step_named s.book c.flow step ≡ Some t) P Q (or_fault (step_named s.book c.flow step) denial.NoStep) _
    (or_fares Q (step_named s.book c.flow step) denial.NoStep (tt, omega arith, tt)) (λ t _. of)))
resolve_fares s (ask.Request (request.Withdraw by n)) sound =
    let P = IsDeedFor s (ask.Request (request.Withdraw by n)) in
    let Q = Fits s (flows_of s n) in
    then_fares (λ _. Unit {0}) P Q (check (is_admin s.book.policy by) denial.NotAdmin) _
    (check_fares Q (is_admin s.book.policy by) denial.NotAdmin (tt, omega arith, tt))
    (λ _ _. then_fares (IsOn s (flows_of s n)) P Q (open_case_at s.book n) _ (case_fares s n sound) (λ c of. tt))
resolve_fares s (ask.Request (request.Change by e)) sound = edit_fares s (ask.Request (request.Change by e)) deed.Change (amendment_of s.book.policy by e)
    (λ a is. record { by = by; edit = e; asked = refl; found = is })
resolve_fares s (ask.Request (request.Show n)) sound =
    let Q = Fits s (flows_of s n) in
    then_fares (λ c. numbered_case s.book.cases n ≡ Some c) (IsDeedFor s (ask.Request (request.Show n))) Q
    (or_fault (numbered_case s.book.cases n) denial.NoCase) _
    (or_fares Q (numbered_case s.book.cases n) denial.NoCase (tt, omega arith, tt)) (λ c is. sound.cases n c is)
resolve_fares s (ask.Request (request.Worklist user)) sound =
    let P = IsDeedFor s (ask.Request (request.Worklist user)) in
    let Q = Fits s None in
    then_fares (λ u. user_named s.book user ≡ Some u) P Q (or_fault (user_named s.book user) denial.NoUser) _
    (or_fares Q (user_named s.book user) denial.NoUser (tt, omega arith, tt)) (λ u _. tt)
resolve_fares s (ask.Request (request.WhatIf by e)) sound =
    edit_fares s (ask.Request (request.WhatIf by e)) deed.WhatIf (amendment_of s.book.policy by e) (λ a is. tt)
resolve_fares s (ask.Bad b) sound = refl

-- ---- causes

held_so : (s : State) (o : Option ℕ) (c : CaseShape) (t : ℕ) → IsOn s o c → Fits s o (denial.NotHeld (state_at c t))
held_so s o c t of = (step_stands s.book.policy c t of.1, (let nests = state_nests s.book.policy (state_at c t) in omega (arith, nests)), tt)

order_so : (s : State) (o : Option ℕ) (c : CaseShape) (t v : ℕ) → IsSoundState s → IsOn s o c →
    first_missing c (flow_at s.book.policy c.flow).flow.order t ≡ Some v
    → Fits s o (denial.Order c.flow v)
order_so s o c t v sound of is = grind (arith, missing_there)

roles_so : (s : State) (o : Option ℕ) (f t : ℕ) → IsSoundState s → Fits s o (denial.Role (permitted_roles s.book.policy f t))
roles_so s o f t sound = grind (arith, roles_stand, names_flat, roles_few)

rule_so : (s : State) (o : Option ℕ) (c : CaseShape) (t u v : ℕ) → IsSoundState s → IsOn s o c
    → first_falsified (problem_of s.book.policy c.flow).related (user_at (assigned_with c t u)) 0 (flow_at s.book.policy c.flow).rules ≡ Some v →
    Fits s o (denial.Rule v)
rule_so s o c t u v sound of is = grind (arith, falsified_there)

claim_so : (s : State) (o : Option ℕ) (c : CaseShape) (t u : ℕ) → IsSoundState s → IsOn s o c → IsCauseSo (Fits s o) (first_cause s.book.policy c t u)
claim_so s o c t u sound of =
    let Q = Fits s o in
    four_so Q _ _ _ _
    (map_so Q denial.Taken (user_of (state_at c t)) (λ v is. (user_known s.book.policy c t v of.1 is, omega arith, tt)))
    (map_so Q (denial.Order c.flow) _ (λ v is. order_so s o c t v sound of is))
    (unless_so Q _ (denial.Role _) (roles_so s o c.flow t sound))
    (map_so Q denial.Rule _ (λ v is. rule_so s o c t u v sound of is))

cause_so : (s : State) (what : Ask) (given : Deed) → IsSoundState s → IsDeedFor s what given → IsCauseSo (Fits s (concern s what)) (cause_aside s.book given)
cause_so s what given sound of = grind (arith, unless_so, claim_so, held_so)

full_so : (s : State) (o : Option ℕ) (given : Deed) → IsCauseSo (Fits s o) (cause_full s.book given)
full_so s o given = grind (arith, unless_so)

-- what is decided is a deed of what is asked, or a denial that fits
pub decision_fares : (s : State) (what : Ask) → IsSoundState s → Fares (IsDeedFor s what) (Fits s (concern s what)) (decision_of s.book what)
decision_fares s what sound = grind (arith, then_fares, resolve_fares, unless_fares, cause_so, full_so)
