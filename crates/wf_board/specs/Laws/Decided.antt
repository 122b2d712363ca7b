-- How each request of a history is decided, in the state before it.
use Rattle.std.specs.Prelude.{◌≡◌, ◌↔◌, ℕ, ◌<◌, Bool, true, List, Option, Some, Result, Ok, Err}
use Rattle.std.specs.Prelude.{IsTrue, slice_get, take}
use Rattle.std.proofs.Common.{◌⊎◌}
use Rattle.constraint_forms.specs.Assign.{no_steps, no_users}
use Rattle.refutation_tree.specs.declared.tree.Tree.{Tree}
use Rattle.refutation_tree.specs.Laws.Views.{shape_of}
use Rattle.policy_book.specs.Laws.Shapes.{PolicyShape}
use Rattle.policy_book.specs.Policies.{problem_of}
use Rattle.policy_book.specs.Laws.Plans.{IsCompletable, Problem}
use Rattle.policy_book.specs.Laws.Refuting.{refutes}
use Rattle.case_record.specs.Cases.{CaseShape, assigned_of, finished_of, is_open}
use Rattle.wf_talk.specs.declared.edit.Edit.{Edit}
use Rattle.wf_talk.specs.declared.entry.Entry.{Entry}
use Rattle.wf_talk.specs.declared.request.Request.TheVariants as request
use Rattle.wf_talk.specs.declared.request.Ask.{Ask}
use Rattle.wf_talk.specs.declared.request.Ask.TheVariants as ask
use Rattle.wf_talk.specs.declared.reply.Reply.{Reply}
use Rattle.wf_talk.specs.declared.reply.Reply.TheVariants as reply
use Rattle.wf_talk.specs.declared.reply.Denial.{Denial}
use Rattle.wf_talk.specs.declared.reply.Denial.TheVariants as denial
use Rattle.admin_edits.specs.ClaimCauses.{assigned_with}
use Rattle.admin_edits.specs.declared.amendment.Amendment.{Amendment}
use Rattle.admin_edits.specs.Laws.Edits.{amendment_of}
use Rattle.wf_board.specs.declared.deed.Deed.{Deed}
use Rattle.wf_board.specs.declared.deed.Deed.TheVariants as deed
use Rattle.wf_board.specs.Laws.States.{State, numbered_case, opening_state}
use Rattle.wf_board.specs.Edition.{CanBeCompleted}
use Rattle.wf_board.specs.Decisions.{decision_of}
use Rattle.wf_board.specs.Laws.Steps.{with_edited}
use Rattle.wf_board.specs.Laws.Histories.{state_after}
use Rattle.wf_board.specs.Laws.Kept.{KeepsCompletable}
use Rattle.wf_board.specs.Laws.Grants.{AreNamed, MayBeGranted}

-- a reply that decides: neither `again` nor want of memory
pub record IsDecision (given : Reply) : Type 0 where
  pub once : (n place : ℕ) → ¬ (given ≡ reply.Again n place)
  pub memory : ¬ (given ≡ reply.NoMemory)

-- the tree refutes, and there is no valid plan
pub record IsRefuted (p : Problem) (assigned : List (Option ℕ)) (finished : List Bool) (tree : Tree)
    : Type 0 where
  pub refutes : IsTrue (refutes p assigned finished (shape_of tree))
  pub incomplete : ¬ IsCompletable p assigned finished

-- the case with this number, of this workflow, is open and cannot be completed, as the tree shows;
-- each open case with a lesser number can be
pub record IsLeastStranded (s : State) (n f : ℕ) (tree : Tree) : Type 0 where
  pub case : CaseShape
  pub its_case : numbered_case s.book.cases n ≡ Some case
  pub live : is_open case ≡ true
  pub flow : case.flow ≡ f
  pub refuted :
      IsRefuted (problem_of s.book.policy case.flow) (assigned_of case) (finished_of case) tree
  pub least : (m : ℕ) (other : CaseShape) → m < n → numbered_case s.book.cases m ≡ Some other →
      is_open other ≡ true → CanBeCompleted s.book.policy other

-- a claim that names an open case, one of its steps and a user, and is decided, is granted exactly
-- where its user is authorised, its step is ready, and its case can then be completed
abbrev pub IsGrantExact : State → Ask → Reply → Type 0
IsGrantExact s what given =
    (n : ℕ) (step user : List ℕ) (c : CaseShape) (t u : ℕ) →
    what ≡ ask.Request (request.Claim n step user) → AreNamed s.book n step user c t u →
    IsDecision given →
    ((plan : List ℕ) × (given ≡ reply.Granted plan)) ↔ MayBeGranted s.book.policy c t u

-- the edit is accepted exactly where each open case can be completed under the policy with this
-- change, and else denied by the least case that cannot be
pub record IsChangeExact (s : State) (a : Amendment) (given : Reply) : Type 0 where
  pub accepted : ((number : ℕ) × (given ≡ reply.Edited number)) ↔ KeepsCompletable (with_edited s a)
  pub strands : ¬ KeepsCompletable (with_edited s a) →
      (n : ℕ) × ((f : ℕ) × ((tree : Tree) × ((given ≡ reply.Denied (denial.Strands n f tree))
      × IsLeastStranded (with_edited s a) n f tree)))

-- so is an edit against which no other cause stands, and which is decided
abbrev pub IsEditExact : State → Ask → Reply → Type 0
IsEditExact s what given =
    (by : List ℕ) (edit : Edit) (a : Amendment) →
    what ≡ ask.Request (request.Change by edit) → amendment_of s.book.policy by edit ≡ Ok a →
    IsDecision given → IsChangeExact s a given

-- what a request asks for is denied by a tree: no cause is against it, and there is no valid plan
abbrev pub IsDeniedByTree : State → Result Deed Denial → Denial → Type 0
IsDeniedByTree s (Ok (deed.Open f)) (denial.Unsatisfiable g tree) =
    (g ≡ f) × IsRefuted (problem_of s.book.policy f) no_users no_steps tree
IsDeniedByTree s (Ok (deed.Claim d)) (denial.Stranded g tree) =
    (g ≡ d.case.flow)
    × IsRefuted (problem_of s.book.policy d.case.flow) (assigned_with d.case d.step d.user)
    (finished_of d.case) tree
IsDeniedByTree s (Ok (deed.Change a)) (denial.Strands n f tree) =
    IsLeastStranded (with_edited s a) n f tree
IsDeniedByTree s given d = ⊥

-- a denial is the first cause, or its tree refutes
abbrev pub IsDenialExact : State → Ask → Reply → Type 0
IsDenialExact s what given =
    (d : Denial) → given ≡ reply.Denied d →
    (decision_of s.book what ≡ Err d) ⊎ IsDeniedByTree s (decision_of s.book what) d

-- a reply decides exactly what was asked
pub record IsExact (s : State) (what : Ask) (given : Reply) : Type 0 where
  pub grants : IsGrantExact s what given
  pub edits : IsEditExact s what given
  pub denials : IsDenialExact s what given

-- each of the entries is exact in the state that those before it leave
abbrev pub AreExact : PolicyShape → List Entry → Type 0
AreExact p entries =
    (n : ℕ) (e : Entry) → slice_get entries n ≡ Some e →
    IsExact (state_after (opening_state p) (take n entries)) e.ask e.reply
