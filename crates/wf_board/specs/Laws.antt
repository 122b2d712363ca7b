-- Laws of sessions.
pub mod Decided
pub mod Found
pub mod Grants
pub mod Histories
pub mod Kept
pub mod KeptPlans
pub mod States
pub mod Steps
use Rattle.std.specs.Prelude.{◌≡◌, ◌↔◌, ℕ, List, [], take, Ok}
use Rattle.policy_book.specs.Laws.Shapes.{PolicyShape}
use Rattle.policy_book.specs.Laws.Facts.{IsSoundPolicy}
use Rattle.policy_book.specs.Policies.{problem_of}
use Rattle.policy_book.specs.Laws.Plans.{IsCompletable, IsValidPlan}
use Rattle.case_record.specs.Cases.{CaseShape, assigned_of, finished_case, finished_of}
use Rattle.case_record.specs.Cases.{state_at, with_state}
use Rattle.wf_names.specs.declared.states.StepState.TheVariants.{Free, Held}
use Rattle.admin_edits.specs.ClaimCauses.{assigned_with}
use Rattle.wf_talk.specs.declared.entry.Entry.{Entry}
use Rattle.wf_talk.specs.declared.request.Request.TheVariants as request
use Rattle.wf_talk.specs.declared.request.Ask.{Ask}
use Rattle.wf_talk.specs.declared.request.Ask.TheVariants as ask
use Rattle.wf_talk.specs.declared.reply.Reply.{Reply}
use Rattle.wf_talk.specs.declared.reply.Reply.TheVariants as reply
use Rattle.wf_talk.specs.declared.reply.Denial.{Denial}
use Rattle.wf_talk.specs.declared.reply.Denial.TheVariants as denial
use Rattle.refutation_tree.specs.declared.tree.Tree.TheVariants as tree
use Rattle.wf_board.specs.declared.deed.Deed.TheVariants as deed
use Rattle.wf_board.specs.declared.deed.Duty.{Duty}
use Rattle.admin_edits.specs.declared.amendment.Amendment.{Amendment}
use Rattle.admin_edits.specs.Laws.Edits.{amended}
use Rattle.wf_board.specs.Laws.States.{State, open_cases, opening_state}
use Rattle.wf_board.specs.Edition.{CanAllBeCompleted}
use Rattle.wf_board.specs.Decisions.{decision_of}
use Rattle.wf_board.specs.Laws.Steps.{IsStep, state_after_step}
use Rattle.wf_board.specs.Laws.Histories.{IsLegal, state_after}
use Rattle.wf_board.specs.declared.verdict.Verdict.{Verdict}
use Rattle.wf_board.specs.Boards.{BoardShape, book_on, state_on}
use Rattle.wf_board.specs.Verdicts.{IsRight, snap_of}
use Rattle.wf_board.specs.Laws.Kept.{AreCasesNumbered, IsSoundState, KeepsCompletable}
use Rattle.wf_board.specs.Laws.Decided.{AreExact}
use Rattle.wf_board.specs.Laws.Grants.{AreNamed, MayBeGranted}

-- every step keeps each open case completable
abbrev pub StepsKeepCompletable : Type 0
StepsKeepCompletable =
    (s : State) (what : Ask) (given : Reply) → IsSoundState s → KeepsCompletable s →
    IsStep s what given →
    IsSoundState (state_after_step s what given) × KeepsCompletable (state_after_step s what given)

-- after any number of entries of a legal history each case is of one of the workflows of the
-- policy, as it then is
abbrev pub HistoriesStaySound : Type 0
HistoriesStaySound =
    (p : PolicyShape) (rounds : ℕ) (entries : List Entry) → IsSoundPolicy p →
    IsLegal (opening_state p) rounds entries →
    (n : ℕ) → IsSoundState (state_after (opening_state p) (take n entries))

-- after any entries the cases are numbered 0, 1, 2 .. in order
abbrev pub HistoriesNumberCases : Type 0
HistoriesNumberCases = (p : PolicyShape) (entries : List Entry) →
    AreCasesNumbered (state_after (opening_state p) entries)

-- each entry of a legal history decides exactly what was asked, in the state that those before it
-- leave
abbrev pub HistoriesAreExact : Type 0
HistoriesAreExact =
    (p : PolicyShape) (rounds : ℕ) (entries : List Entry) → IsSoundPolicy p →
    IsLegal (opening_state p) rounds entries → AreExact p entries

-- after any number of entries of a legal history each open case can be completed
abbrev pub HistoriesKeepCompletable : Type 0
HistoriesKeepCompletable =
    (p : PolicyShape) (rounds : ℕ) (entries : List Entry) → IsSoundPolicy p →
    IsLegal (opening_state p) rounds entries →
    (n : ℕ) → KeepsCompletable (state_after (opening_state p) (take n entries))

-- in a state of one policy, a claim against which there is no cause and for which there is memory
-- is granted exactly where its case can then be completed
abbrev pub ClaimsAreExact : Type 0
ClaimsAreExact =
    (s : State) (what : Ask) (given : Reply) (d : Duty) → IsSoundState s →
    decision_of s.book what ≡ Ok (deed.Claim d) → IsStep s what given →
    ¬ (given ≡ reply.NoMemory) →
    ((plan : List ℕ) × (given ≡ reply.Granted plan)) ↔
    IsCompletable (problem_of s.book.policy d.case.flow) (assigned_with d.case d.step d.user)
    (finished_of d.case)

-- in a state of one policy, an edit against which there is no cause and for which there is memory
-- is accepted exactly where each open case can be completed under the changed policy
abbrev pub EditsAreExact : Type 0
EditsAreExact =
    (s : State) (what : Ask) (given : Reply) (a : Amendment) → IsSoundState s →
    decision_of s.book what ≡ Ok (deed.Change a) →
    IsStep s what given → ¬ (given ≡ reply.NoMemory) →
    ((number : ℕ) × (given ≡ reply.Edited number)) ↔
    CanAllBeCompleted (amended s.book.policy a) (open_cases s.book.cases)

-- in a state of one policy, a claim for which there is memory is granted exactly where its user is
-- authorised, its step is ready, and its case can then be completed
abbrev pub GrantsAreExact : Type 0
GrantsAreExact =
    (s : State) (n : ℕ) (step user : List ℕ) (c : CaseShape) (t u : ℕ) (given : Reply) →
    IsSoundState s →
    AreNamed s.book n step user c t u →
    IsStep s (ask.Request (request.Claim n step user)) given → ¬ (given ≡ reply.NoMemory) →
    ((plan : List ℕ) × (given ≡ reply.Granted plan)) ↔ MayBeGranted s.book.policy c t u

-- when a held step is finished or given back, a valid plan stays valid
abbrev pub PlansStayValid : Type 0
PlansStayValid =
    (p : PolicyShape) (c : CaseShape) (t u : ℕ) (plan : List ℕ) → state_at c t ≡ Held u →
    IsValidPlan (problem_of p c.flow) (assigned_of c) (finished_of c) plan →
    IsValidPlan (problem_of p c.flow) (assigned_of (finished_case c t))
    (finished_of (finished_case c t)) plan
    × IsValidPlan (problem_of p c.flow) (assigned_of (with_state c t Free))
    (finished_of (with_state c t Free)) plan

-- what is right for a snapshot is right for the board of which it was taken
abbrev pub SnapsSuffice : Type 0
SnapsSuffice =
    (b : BoardShape) (what : Ask) (spare : ℕ) (v : Verdict) →
    IsRight (book_on (snap_of b what spare)) what v →
    IsRight (state_on b).book what v

-- a denial without its tree
abbrev pub bare_denial : Denial → Denial
bare_denial (denial.Unsatisfiable f t) = denial.Unsatisfiable f (tree.Holder 0)
bare_denial (denial.Stranded f t) = denial.Stranded f (tree.Holder 0)
bare_denial (denial.Strands n f t) = denial.Strands n f (tree.Holder 0)
bare_denial d = d

-- a reply without its plan or its tree
abbrev pub bare : Reply → Reply
bare (reply.Granted plan) = reply.Granted []
bare (reply.Opened n plan) = reply.Opened n []
bare (reply.Denied d) = reply.Denied (bare_denial d)
bare given = given

-- want of memory aside, a state and what is asked fix the reply but for its plan or tree, and they
-- fix the state after it
abbrev pub OutcomeIsFixed : Type 0
OutcomeIsFixed =
    (s : State) (what : Ask) (one other : Reply) → IsSoundState s → IsStep s what one →
    IsStep s what other →
    ¬ (one ≡ reply.NoMemory) → ¬ (other ≡ reply.NoMemory) →
    (bare one ≡ bare other) × (state_after_step s what one ≡ state_after_step s what other)
