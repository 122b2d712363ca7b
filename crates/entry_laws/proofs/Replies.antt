-- The reply of a step stands for something in the state before it, and nests little.
use Rattle.entry_laws.proofs.Common.{◌≡◌, ℕ, ◌+◌, ◌<◌, ◌≤◌, ◌^◌, inl, inr, Bool, true, List, length, Option, Some, Result, Ok, Err, sym, subst, arith, depth}
use Rattle.entry_laws.proofs.Common.{Tree, shape_of, PolicyShape, problem_of, IsValidPlan, refutes, CaseShape, finished_of, Ask, Bad, Face, WorkItem, Reply}
use Rattle.entry_laws.proofs.Common.{Denial, assigned_with, Amendment, amended, Deed, State, open_cases, IsFirstStranded, IsAllowed, decision_of, Answers}
use Rattle.entry_laws.proofs.Common.{IsReplyTo, IsStep, AreStranded, IsWorkOf, IsOfPolicy, IsSoundState, KeepsCompletable, HoldsOf, IsTold, told, Fares}
use Rattle.entry_laws.proofs.Common.{reply_data, IsBad, IsReply, names_flat, HasFewSteps, flows_of}
use Rattle.constraint_forms.specs.Assign.{no_steps, no_users}
use Rattle.wf_talk.specs.declared.reply.Reply.TheVariants as reply
use Rattle.wf_talk.specs.declared.reply.Denial.TheVariants as denial
use Rattle.wf_talk.specs.Jobs.{IsNamedAsk}
use Rattle.wf_board.specs.declared.deed.Deed.TheVariants as deed
use Rattle.wf_board.specs.Laws.Steps.{face_of}
use Rattle.entry_laws.proofs.Trees.{tree_fits}
use Rattle.entry_laws.proofs.Parts.{bad_nests, bad_stands, case_few, case_stands, given_long, no_users_long, phase_flat, plan_fits, problem_fits, states_nest}
use Rattle.entry_laws.proofs.Listed.{numbers_flat, stranded_stand, work_nests, work_stands}
use Rattle.entry_laws.proofs.Numbers.{AreSerial}
use Rattle.entry_laws.proofs.Stranded.{stranded_fits}
use Rattle.entry_laws.proofs.Told.{FitsDenial, IsDeedFor, IsOn, concern, decision_fares}

-- what is known of a state that a session reaches
pub record IsReached (s : State) : Type 0 where
  pub sound : IsSoundState s
  pub kept : KeepsCompletable s
  pub few : HasFewSteps s.book.policy
  pub serial : AreSerial s.book

-- a reply stands for something, and nests little
abbrev pub FitsReply : PolicyShape → (ℕ → Option ℕ) → Option ℕ → Reply → Type 0
FitsReply p flows o r = IsReply p flows o r × (depth (reply_data p r) ≤ 90)

-- ---- plans

granted_fits : (s : State) (o : Option ℕ) (c : CaseShape) (a : List (Option ℕ)) (finished : List Bool) (plan : List ℕ) → IsReached s → IsOn s o c
    → IsValidPlan (problem_of s.book.policy c.flow) a finished plan → FitsReply s.book.policy (flows_of s) o (reply.Granted plan)
granted_fits s o c a finished plan is of valid =
    let p = s.book.policy in
    let flat = names_flat p.roster.users plan in (
      plan_fits p c.flow (problem_of p c.flow) a finished plan (problem_fits p c.flow is.sound.policy of.1.flow) (is.few c.flow of.1.flow) valid,
      omega (arith, flat),
    )

opened_fits : (s : State) (o : Option ℕ) (f n : ℕ) (plan : List ℕ) → IsReached s → f < length s.book.policy.flow_names → n ≡ s.book.ever
    → IsValidPlan (problem_of s.book.policy f) no_users no_steps plan → FitsReply s.book.policy (flows_of s) o (reply.Opened n plan)
opened_fits s o f n plan is known next valid =
    let p = s.book.policy in
    let within : f < length p.flows = subst (λ m. f < m) is.sound.policy.named known in
    let flat = names_flat p.roster.users plan in
    let few = is.serial.within in (
      (
        omega (arith, next, few),
        plan_fits p f (problem_of p f) no_users no_steps plan (problem_fits p f is.sound.policy within) (is.few f within) valid,
      ),
      omega (arith, flat),
    )

-- ---- trees

unsatisfiable_fits : (s : State) (o : Option ℕ) (f : ℕ) (tree : Tree) → IsReached s → (o ≡ Some f) × (f < length s.book.policy.flow_names)
    → refutes (problem_of s.book.policy f) no_users no_steps (shape_of tree) ≡ true →
    FitsReply s.book.policy (flows_of s) o (reply.Denied (denial.Unsatisfiable f tree))
unsatisfiable_fits s o f tree is of refuted =
    let p = s.book.policy in
    let within : f < length p.flows = subst (λ m. f < m) is.sound.policy.named of.1 in
    let fits = tree_fits p f (problem_of p f) no_users no_steps (shape_of tree) (problem_fits p f is.sound.policy within) (is.few f within) no_users_long
    refuted in
    let nests = fits.nests in
    ((of, fits.stands), omega (arith, nests))

stranding_fits : (s : State) (o : Option ℕ) (c : CaseShape) (t u : ℕ) (tree : Tree) → IsReached s → IsOn s o c
    → refutes (problem_of s.book.policy c.flow) (assigned_with c t u) (finished_of c) (shape_of tree) ≡ true
    → FitsReply s.book.policy (flows_of s) o (reply.Denied (denial.Stranded c.flow tree))
stranding_fits s o c t u tree is of refuted =
    let p = s.book.policy in
    let fits = tree_fits p c.flow (problem_of p c.flow) (assigned_with c t u) (finished_of c) (shape_of tree)
    (problem_fits p c.flow is.sound.policy of.1.flow) (is.few c.flow of.1.flow) (given_long c t u (case_few p c is.few of.1)) refuted in
    let nests = fits.nests in
    (((of.0, subst (λ m. c.flow < m) (sym is.sound.policy.named) of.1.flow), fits.stands), omega (arith, nests))

edit_fits : (s : State) (o : Option ℕ) (a : Amendment) (n f : ℕ) (tree : Tree) → IsReached s → IsAllowed s.book.policy a
    → IsFirstStranded (amended s.book.policy a) (open_cases s.book.cases) n f tree →
    FitsReply s.book.policy (flows_of s) o (reply.Denied (denial.Strands n f tree))
edit_fits s o a n f tree is allowed stranded = grind (arith, stranded_fits)

-- ---- what is seen

face_fits : (s : State) (o : Option ℕ) (c : CaseShape) → IsReached s → IsOfPolicy s.book.policy c →
    FitsReply s.book.policy (flows_of s) o (reply.Shown (face_of c))
face_fits s o c is of =
    let p = s.book.policy in
    let phase = phase_flat c.phase in
    let states = states_nest p c.states in (
      (subst (λ m. c.flow < m) (sym is.sound.policy.named) of.flow, case_few p c is.few of, case_stands p c of),
      omega (arith, phase, states),
    )

-- ---- lists of views

work_fits : (s : State) (o : Option ℕ) (u : ℕ) (items : List WorkItem) → IsReached s → IsWorkOf s.book u items →
    FitsReply s.book.policy (flows_of s) o (reply.Work items)
work_fits s o u items reached is =
    (work_stands s u items reached.sound reached.serial is, let nests = work_nests s.book.policy items in omega (arith, nests))

what_if_fits : (s : State) (o : Option ℕ) (pol : PolicyShape) (numbers : List ℕ) → IsReached s → AreStranded pol (open_cases s.book.cases) numbers
    → FitsReply s.book.policy (flows_of s) o (reply.WhatIf numbers)
what_if_fits s o pol numbers reached is = grind (arith, stranded_stand, numbers_flat)

-- ---- deeds

bad_fits : (s : State) (o : Option ℕ) (b : Bad) → IsBad b → FitsReply s.book.policy (flows_of s) o (reply.Bad b)
bad_fits s o b is = (is, let nests = bad_nests b in omega (arith, nests))

deed_fits : (s : State) (what : Ask) (given : Deed) (answer : Reply) → s.edits + 1 < 2 ^ 32 → IsReached s → IsTold s.book given → IsNamedAsk what →
    IsDeedFor s what given → IsReplyTo s given answer → FitsReply s.book.policy (flows_of s) (concern s what) answer
deed_fits s what given reply.NoMemory edits reached known named of is = (tt, omega arith)
deed_fits s what (deed.Open f) (reply.Opened n plan) edits reached known named of is = opened_fits s (concern s what) f n plan reached of.1 is.0 is.1
deed_fits s what (deed.Open f) (reply.Denied (denial.Unsatisfiable g tree)) edits reached known named of is =
    subst (λ x. FitsReply s.book.policy (flows_of s) (concern s what) (reply.Denied (denial.Unsatisfiable x tree))) (sym is.0)
    (unsatisfiable_fits s (concern s what) f tree reached of is.1)
deed_fits s what (deed.Claim d) (reply.Granted plan) edits reached known named of is =
    granted_fits s (concern s what) d.case (assigned_with d.case d.step d.user) (finished_of d.case) plan reached of is
deed_fits s what (deed.Claim d) (reply.Denied (denial.Stranded g tree)) edits reached known named of is =
    subst (λ x. FitsReply s.book.policy (flows_of s) (concern s what) (reply.Denied (denial.Stranded x tree))) (sym is.0)
    (stranding_fits s (concern s what) d.case d.step d.user tree reached of is.1)
deed_fits s what (deed.Finish d) (reply.Finished done) edits reached known named of is = (tt, omega arith)
deed_fits s what (deed.GiveBack d) reply.Returned edits reached known named of is = (tt, omega arith)
deed_fits s what (deed.Release n c t) reply.Released edits reached known named of is = (tt, omega arith)
deed_fits s what (deed.Withdraw n) reply.Withdrawn edits reached known named of is = (tt, omega arith)
deed_fits s what (deed.Change a) (reply.Edited n) edits reached known named of is = let next = is.0 in (omega (arith, next, edits), omega arith)
deed_fits s what (deed.Change a) (reply.Denied (denial.Strands n f tree)) edits reached known named of is =
    edit_fits s (concern s what) a n f tree reached (known.0 reached.sound.policy) is
deed_fits s what (deed.Show c) (reply.Shown face) edits reached known named of is =
    subst (λ (x : Face). FitsReply s.book.policy (flows_of s) (concern s what) (reply.Shown x)) (sym is) (face_fits s (concern s what) c reached of)
deed_fits s what (deed.Work u) (reply.Work items) edits reached known named of is = work_fits s (concern s what) u items reached is
deed_fits s what (deed.WhatIf a) (reply.WhatIf numbers) edits reached known named of is =
    what_if_fits s (concern s what) (amended s.book.policy a) numbers reached is
deed_fits s what (deed.TurnAway b) (reply.Bad given) edits reached known named of is =
    subst (λ (x : Bad). FitsReply s.book.policy (flows_of s) (concern s what) (reply.Bad x)) (sym is)
    (bad_fits s (concern s what) b (bad_stands b (subst IsNamedAsk of named)))
deed_fits s what given answer edits reached known named of is = absurd is

denied_fits : (s : State) (o : Option ℕ) (d : Denial) → FitsDenial s.book.policy (flows_of s) o d → FitsReply s.book.policy (flows_of s) o (reply.Denied d)
denied_fits s o d of = (of.0, let nests = of.1 in omega (arith, nests))

decided_fits : (s : State) (what : Ask) (r : Result Deed Denial) (answer : Reply) → s.edits + 1 < 2 ^ 32 → IsReached s → HoldsOf (IsTold s.book) r
    → IsNamedAsk what → Fares (IsDeedFor s what) (FitsDenial s.book.policy (flows_of s) (concern s what)) r → Answers s r answer →
    FitsReply s.book.policy (flows_of s) (concern s what) answer
decided_fits s what (Ok given) answer edits reached known named of is = deed_fits s what given answer edits reached known named of is
decided_fits s what (Err d) answer edits reached known named of (inl denied) = grind (arith, denied_fits)
decided_fits s what (Err d) answer edits reached known named of (inr short) = grind arith

-- the reply of a step fits
pub step_fits : (s : State) (what : Ask) (answer : Reply) → s.edits + 1 < 2 ^ 32 → IsReached s → IsNamedAsk what → IsStep s what answer
    → FitsReply s.book.policy (flows_of s) (concern s what) answer
step_fits s what answer edits reached named step =
    decided_fits s what (decision_of s.book what) answer edits reached (told s.book what) named (decision_fares s what reached.sound) step
