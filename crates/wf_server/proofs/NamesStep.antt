-- What a step answers is written alike with the names of a later policy.
use Rattle.wf_server.proofs.Common.{◌≡◌, ℕ, ◌<◌, Bool, true, List, length, Option, Result, refl, sym, ap, subst, codes, arith, array, object, no_members}
use Rattle.wf_server.proofs.Common.{items_of, shape_of, PolicyShape, Ask, Face, Denial, Reply, KeepsNames, State, IsStep, IsSoundState, KeepsCompletable}
use Rattle.wf_server.proofs.Common.{tree_data, reply_data, strands_data, AreSerial}
use Rattle.serde_json.specs.Data.{number, member, unsigned}
use Rattle.refutation_tree.specs.declared.tree.Tree.{Tree}
use Rattle.policy_book.specs.Policies.{problem_of}
use Rattle.policy_book.specs.Laws.Refuting.{refutes}
use Rattle.wf_talk.specs.declared.reply.Denial.TheVariants as denial
use Rattle.wf_talk.specs.declared.reply.Reply.TheVariants as reply
use Rattle.wf_board.specs.declared.deed.Deed.{Deed}
use Rattle.wf_board.specs.declared.deed.Deed.TheVariants as deed
use Rattle.wf_board.specs.Laws.Steps.{Answers, IsReplyTo, face_of}
use Rattle.wf_board.specs.Decisions.{decision_of}
use Rattle.wf_board.proofs.Faring.{Fares}
use Rattle.wf_board.proofs.Told.{HoldsOf, IsTold, told}
use Rattle.wire_json.specs.Entries.{single}
use Rattle.entry_laws.specs.Laws.{flows_of}
use Rattle.entry_laws.proofs.Parts.{case_stands, problem_fits}
use Rattle.entry_laws.proofs.Stranded.{stranded_tree}
use Rattle.entry_laws.proofs.Told.{FitsDenial, IsDeedFor, concern, decision_fares}
use Rattle.entry_laws.proofs.Trees.{tree_stands}
use Rattle.wf_server.proofs.NamesKept.{denial_same, face_same, plan_same, tree_same, work_same}

-- a state as the law goes over it
pub record IsNamed (s : State) : Type 0 where
  pub sound : IsSoundState s
  pub kept : KeepsCompletable s
  pub serial : AreSerial s.book

-- a tree that refutes a workflow of the policy
refuting_same : (s : State) (q : PolicyShape) (f g : ℕ) (a : List (Option ℕ)) (finished : List Bool) (tree : Tree) → KeepsNames s.book.policy q →
    IsSoundState s → f < length s.book.policy.flows → g ≡ f → refutes (problem_of s.book.policy f) a finished (shape_of tree) ≡ true
    → tree_data q g (shape_of tree) ≡ tree_data s.book.policy g (shape_of tree)
refuting_same s q f g a finished tree keeps sound known same is =
    let p = s.book.policy in
    subst (λ x. tree_data q x (shape_of tree) ≡ tree_data p x (shape_of tree)) (sym same)
    (tree_same p q f (shape_of tree) keeps (tree_stands p f (problem_of p f) a finished (shape_of tree) (problem_fits p f sound.policy known) is))

-- the reply to a deed
deed_text : (s : State) (q : PolicyShape) (what : Ask) (given : Deed) (answer : Reply) → KeepsNames s.book.policy q → IsNamed s → IsTold s.book given →
    IsDeedFor s what given → IsReplyTo s given answer → reply_data q answer ≡ reply_data s.book.policy answer
deed_text s q what given reply.NoMemory keeps state known of is = refl
deed_text s q what (deed.Open f) (reply.Opened n plan) keeps state known of is =
    ap (λ d. single (codes "opened") (object (member (codes "case") (number (unsigned n)) (member (codes "plan") d no_members))))
    (plan_same s.book.policy q (problem_of s.book.policy f) _ _ plan keeps refl is.1)
deed_text s q what (deed.Open f) (reply.Denied (denial.Unsatisfiable g tree)) keeps state known of is =
    ap (λ d. single (codes "denied") (single (codes "unsatisfiable") d))
    (refuting_same s q f g _ _ tree keeps state.sound (subst (λ m. f < m) state.sound.policy.named of.1) is.0 is.1)
deed_text s q what (deed.Claim d) (reply.Granted plan) keeps state known of is =
    ap (λ x. single (codes "granted") (single (codes "plan") x)) (plan_same s.book.policy q (problem_of s.book.policy d.case.flow) _ _ plan keeps refl is)
deed_text s q what (deed.Claim d) (reply.Denied (denial.Stranded g tree)) keeps state known of is =
    ap (λ x. single (codes "denied") (single (codes "stranded") x)) (refuting_same s q d.case.flow g _ _ tree keeps state.sound of.1.flow is.0 is.1)
deed_text s q what (deed.Finish d) (reply.Finished done) keeps state known of is = refl
deed_text s q what (deed.GiveBack d) reply.Returned keeps state known of is = refl
deed_text s q what (deed.Release n c t) reply.Released keeps state known of is = refl
deed_text s q what (deed.Withdraw n) reply.Withdrawn keeps state known of is = refl
deed_text s q what (deed.Change a) (reply.Edited n) keeps state known of is = refl
deed_text s q what (deed.Change a) (reply.Denied (denial.Strands n f tree)) keeps state known of is =
    ap (λ d. single (codes "denied") (single (codes "strands") (strands_data n d)))
    (tree_same s.book.policy q f (shape_of tree) keeps
    (stranded_tree s a n f tree state.sound state.kept state.serial (known.0 state.sound.policy) is))
deed_text s q what (deed.Show c) (reply.Shown face) keeps state known of is =
    subst (λ (x : Face). reply_data q (reply.Shown x) ≡ reply_data s.book.policy (reply.Shown x)) (sym is)
    (ap (single (codes "view")) (face_same s.book.policy q (face_of c) keeps (case_stands s.book.policy c of)))
deed_text s q what (deed.Work u) (reply.Work items) keeps state known of is =
    ap (λ ds. single (codes "worklist") (array (items_of ds))) (work_same s.book.policy q items keeps)
deed_text s q what (deed.WhatIf a) (reply.WhatIf numbers) keeps state known of is = refl
deed_text s q what (deed.TurnAway bad) (reply.Bad b) keeps state known of is = refl
deed_text s q what given answer keeps state known of is = absurd is

-- and to whatever is decided
decided_text : (s : State) (q : PolicyShape) (what : Ask) (r : Result Deed Denial) (answer : Reply) → KeepsNames s.book.policy q → IsNamed s →
    HoldsOf (IsTold s.book) r → Fares (IsDeedFor s what) (FitsDenial s.book.policy (flows_of s) (concern s what)) r → Answers s r answer
    → reply_data q answer ≡ reply_data s.book.policy answer
decided_text s q what r answer keeps state known of is = grind (arith, deed_text, denial_same)

pub step_text : (s : State) (q : PolicyShape) (what : Ask) (answer : Reply) → KeepsNames s.book.policy q → IsNamed s → IsStep s what answer
    → reply_data q answer ≡ reply_data s.book.policy answer
step_text s q what answer keeps state step =
    decided_text s q what (decision_of s.book what) answer keeps state (told s.book what) (decision_fares s what state.sound) step
