-- A claim is granted exactly where its case can then be completed, and an edit accepted where all cases can.
use Rattle.wf_board.proofs.Common.{◌≡◌, ℕ, ◌<◌, inl, inr, true, List, [], ◌∷◌, length, Some, refl, ap, ◌∙◌, arith, user_of, StepState, Free, Held, Tree}
use Rattle.wf_board.proofs.Common.{shape_of, PolicyShape, IsSoundPolicy, problem_of, AreAssigned, IsCompletable, refutes_soundly, CaseShape, assigned_of}
use Rattle.wf_board.proofs.Common.{finished_of, state_at, assigned_of-at, finished_of-at, Reply, assigned_with, Duty, Numbered, State, open_cases, IsReplyTo}
use Rattle.wf_board.proofs.Common.{IsSoundState, CanAllBeCompleted, IsFirstStranded, Amendment, amended, changes_keep_policies_sound}
use Rattle.std.proofs.lemmas.Bool.Decides.{leb_tells}
use Rattle.std.proofs.lemmas.List.{get_or_past}
use Rattle.std.specs.Prelude.{◌↔◌}
use Rattle.wf_names.specs.States.{is_finished}
use Rattle.wf_names.specs.declared.states.StepState.TheVariants.{Finished}
use Rattle.policy_book.specs.Laws.Plans.{IsWellFormed}
use Rattle.certificate_check.proofs.Refuted.{assigned_given}
use Rattle.wf_talk.specs.declared.reply.Reply.TheVariants as reply
use Rattle.wf_talk.specs.declared.reply.Denial.TheVariants as denial
use Rattle.wf_board.specs.declared.deed.Deed.TheVariants as deed
use Rattle.wf_board.specs.Laws.{ClaimsAreExact, EditsAreExact}
use Rattle.wf_board.proofs.Told.{IsTold, claim_free, told}

finished_user : (x : StepState) → is_finished x ≡ true → (u : ℕ) × (user_of x ≡ Some u)
finished_user Free is = cc
finished_user (Held u) is = cc
finished_user (Finished u) is = (u, refl)

-- each finished step of a case is assigned
pub finished_assigned : (c : CaseShape) → AreAssigned (finished_of c) (assigned_of c)
finished_assigned c = grind (arith, finished_user, finished_of-at, assigned_of-at)

-- also where a free step is given to a user
pub claimed_assigned : (c : CaseShape) (t u : ℕ) → state_at c t ≡ Free → AreAssigned (finished_of c) (assigned_with c t u)
claimed_assigned c t u free = assigned_given (assigned_of c) (finished_of c) t u (finished_assigned c) (assigned_of-at c t ∙ ap user_of free)

-- each rule of a workflow names steps of it alone
pub well_formed : (p : PolicyShape) (f : ℕ) → IsSoundPolicy p → f < length p.flows → IsWellFormed (problem_of p f)
well_formed p f sound known k rule is = ((sound.flows f known).ruled k rule is).names

-- also where there is no workflow with the number
pub well_formed_any : (p : PolicyShape) (f : ℕ) → IsSoundPolicy p → IsWellFormed (problem_of p f)
well_formed_any p f sound = grind (arith, leb_tells, get_or_past, well_formed)

-- the case of a refuted claim cannot be completed
pub refuted_claim : (s : State) (d : Duty) (tree : Tree) → IsSoundState s → IsTold s.book (deed.Claim d) →
    IsReplyTo s (deed.Claim d) (reply.Denied (denial.Stranded d.case.flow tree)) →
    ¬ IsCompletable (problem_of s.book.policy d.case.flow) (assigned_with d.case d.step d.user) (finished_of d.case)
refuted_claim s d tree sound known is =
    refutes_soundly (problem_of s.book.policy d.case.flow) (assigned_with d.case d.step d.user) (finished_of d.case) (shape_of tree)
    (well_formed s.book.policy d.case.flow sound.policy (sound.cases d.number d.case known.0.there.case.found).flow)
    (claimed_assigned d.case d.step d.user (claim_free s.book d known.1))
    is.1

claim_exact : (s : State) (d : Duty) (given : Reply) → IsSoundState s → IsTold s.book (deed.Claim d) → IsReplyTo s (deed.Claim d) given →
    ¬ (given ≡ reply.NoMemory) →
    ((plan : List ℕ) × (given ≡ reply.Granted plan)) ↔
    IsCompletable (problem_of s.book.policy d.case.flow) (assigned_with d.case d.step d.user) (finished_of d.case)
claim_exact s d reply.NoMemory sound known is memory = absurd (memory refl)
claim_exact s d (reply.Granted plan) sound known is memory = (λ granted. (plan, is), λ complete. (plan, refl))
claim_exact s d (reply.Denied (denial.Stranded g tree)) sound known is memory =
    (λ granted. cc granted.1, λ complete. absurd (refuted_claim s d tree sound known (refl, is.1) complete))
claim_exact s d given sound known is memory = absurd is

pub claims_are_exact : ClaimsAreExact
claims_are_exact = grind (arith, claim_exact, told)

-- ---- edits

-- not all cases can be completed where one is stranded
pub stranded_not : (p : PolicyShape) (cases : List Numbered) (n f : ℕ) (tree : Tree) → IsSoundPolicy p → IsFirstStranded p cases n f tree →
    ¬ CanAllBeCompleted p cases
stranded_not p [] n f tree sound is all = is
stranded_not p (e ∷ es) n f tree sound (inl here) all = grind (arith, refutes_soundly, well_formed_any, finished_assigned)
stranded_not p (e ∷ es) n f tree sound (inr later) all = stranded_not p es n f tree sound later.1 all.1

edit_exact : (s : State) (a : Amendment) (given : Reply) → IsSoundState s → IsTold s.book (deed.Change a) → IsReplyTo s (deed.Change a) given →
    ¬ (given ≡ reply.NoMemory) →
    ((number : ℕ) × (given ≡ reply.Edited number)) ↔ CanAllBeCompleted (amended s.book.policy a) (open_cases s.book.cases)
edit_exact s a given sound known is memory = grind (arith, changes_keep_policies_sound, stranded_not)

pub edits_are_exact : EditsAreExact
edits_are_exact = grind (arith, edit_exact, told)
