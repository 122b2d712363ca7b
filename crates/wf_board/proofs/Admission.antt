-- Whether a reply that somebody else gave is a step.
use Rattle.wf_board.proofs.Common.{◌≡◌, ◌≢◌, ℕ, Bool, true, false, List, Option, None, Some, Result, Ok, Err, refl, sym, ap, arith, subst, ◌∙◌, ◌>>=◌}
use Rattle.wf_board.proofs.Common.{is_done, Tree, shape_of, PolicyShape, IsSoundPolicy, problem_of, CaseShape, assigned_of, finished_case}
use Rattle.wf_board.proofs.Common.{finished_of, CasesShape, case_in, AscendFrom, Amendment, amended, changes_keep_policies_sound}
use Rattle.wf_board.proofs.Common.{Ask, Reply, Denial, Fault, NotStep, Deed, Duty, Verdict, View, has_no_tree, HasAdmitted, EditionShape, book_of}
use Rattle.wf_board.proofs.Common.{state_on, cause_aside, cause_full, decision_aside, decision_of, unless_denied, CanAllBeCompleted, IsFirstStranded, IsTreeOf}
use Rattle.wf_board.proofs.Common.{IsAllowed, Book, State, is_full, open_cases, IsSoundState, Answers, IsReplyTo, IsStep}
use Rattle.wf_board.proofs.Common.{state_after_decision, board_of, full_or, HasTakenStep, IsKept, IsEditionFor, IsMadeOf, IsStrandingFor, IsViewFor, rows_after}
use Rattle.std.specs.Prelude.{◌↔◌}
use Rattle.policy_book.specs.Laws.Refuting.{refutes}
use Rattle.admin_edits.specs.declared.fault.EditCause.TheVariants as fault
use Rattle.wf_talk.specs.declared.reply.Reply.TheVariants as reply
use Rattle.wf_talk.specs.declared.reply.Denial.TheVariants as denial
use Rattle.wf_board.specs.declared.deed.Deed.TheVariants as deed
use Rattle.wf_board.specs.declared.verdict.Verdict.TheVariants as verdict
use Rattle.wf_board.specs.Admission.{is_view_deed, reply_of, when, IsNoAnswer, IsVerdictFor}
use Rattle.wf_board.specs.Resolve.{resolve}
use Rattle.wf_board.specs.Views.{AreStranded, IsWorkOf}
use Rattle.wf_talk.specs.declared.reply.WorkItem.{WorkItem}
use Rattle.wf_board.proofs.Amended.{IsFoundCase, change_decided, edition_change, plans_complete, same_case, stranded_case}
use Rattle.wf_board.proofs.Exact.{stranded_not}
use Rattle.wf_board.proofs.Fixed.{one_stranded}
use Rattle.wf_board.proofs.Listed.{one_list}
use Rattle.wf_board.proofs.Told.{aside_told}

-- ---- causes have no tree

-- P holds of the fault, if there is one
abbrev FaultOf : {A F : Type 0} → (F → Type 0) → Result A F → Type 0
FaultOf P (Ok x) = Unit {0}
FaultOf P (Err fault) = P fault

then_fault : {A B F : Type 0} (P : F → Type 0) (r : Result A F) (f : A → Result B F) → FaultOf P r → ((x : A) → FaultOf P (f x)) → FaultOf P (r >>= f)
then_fault P r f first each = grind arith

-- a denial shows no tree
abbrev IsBare : Denial → Type 0
IsBare d = has_no_tree d ≡ true

bare_resolve : (b : Book) (what : Ask) → FaultOf IsBare (resolve b what)
bare_resolve b what = grind arith

-- a cause, if there is one, shows no tree
abbrev IsBareCause : Option Denial → Type 0
IsBareCause None = Unit {0}
IsBareCause (Some d) = IsBare d

bare_aside : (b : Book) (d : Deed) → IsBareCause (cause_aside b d)
bare_aside b d = grind arith

bare_full : (b : Book) (d : Deed) → IsBareCause (cause_full b d)
bare_full b d = grind arith

bare_denied : (d : Deed) (o : Option Denial) → IsBareCause o → FaultOf IsBare (unless_denied d o)
bare_denied d o is = grind arith

bare_decision : (b : Book) (what : Ask) → FaultOf IsBare (decision_of b what)
bare_decision b what = grind (arith, then_fault, bare_resolve, bare_denied, bare_aside, bare_full)

pub cause_bare : (b : Book) (what : Ask) (d : Denial) → decision_of b what ≡ Err d → has_no_tree d ≡ true
cause_bare b what d is = subst (FaultOf IsBare) is (bare_decision b what)

-- a reply that changes nothing is taken where a test of it passes
pub test_admitted : (p : PolicyShape) (t : CasesShape) (r : Result Deed Denial) (given : Reply) (b : Bool) (result : Result (Unit {0}) (Fault NotStep)) →
    IsKept p t → result ≡ when b →
    (b ≡ true → (edits : ℕ) → Answers (state_on (board_of p t edits)) r given) → (b ≡ false → IsNoAnswer p t r given) →
    ((s : State) → state_after_decision s r given ≡ s) →
    rows_after p t r given ≡ t.rows → HasAdmitted p t t r given result
test_admitted p t r given b result kept is passes fails stays rows = grind arith

-- ---- which replies a deed has

work_only : (s : State) (u : ℕ) (items : List WorkItem) (given : Reply) → given ≢ reply.NoMemory → IsWorkOf s.book u items → given ≢ reply.Work items →
    ¬ IsReplyTo s (deed.Work u) given
work_only s u items given memory work other = grind (arith, one_list)

what_if_only : (s : State) (a : Amendment) (numbers : List ℕ) (given : Reply) → given ≢ reply.NoMemory →
    AreStranded (amended s.book.policy a) (open_cases s.book.cases) numbers →
    given ≢ reply.WhatIf numbers → ¬ IsReplyTo s (deed.WhatIf a) given
what_if_only s a numbers given memory stranded other = grind (arith, one_list)

view_only : (s : State) (d : Deed) (v : View) (given : Reply) → given ≢ reply.NoMemory → IsViewFor s.book (Ok d) v → given ≢ reply_of v → ¬ IsReplyTo s d given
view_only s d v given memory right other = grind (arith, work_only, what_if_only)

view_tells : (s : State) (d : Deed) (v : View) → IsViewFor s.book (Ok d) v → IsReplyTo s d (reply_of v)
view_tells s d v right = grind arith

view_stays : (s : State) (d : Deed) (given : Reply) → is_view_deed d ≡ true → state_after_decision s (Ok d) given ≡ s
view_stays s d given is = grind arith

view_rows : (p : PolicyShape) (t : CasesShape) (d : Deed) (given : Reply) → is_view_deed d ≡ true → rows_after p t (Ok d) given ≡ t.rows
view_rows p t d given is = grind arith

pub view_right : (b : Book) (d : Deed) (v : Verdict) → is_view_deed d ≡ true → IsVerdictFor b d v → (w : View) × ((v ≡ verdict.View w) × IsViewFor b (Ok d) w)
view_right b d v is right = grind arith

-- the reply to a view is taken where it tells the one that is right
pub view_admitted : (p : PolicyShape) (t : CasesShape) (d : Deed) (v : View) (given : Reply) (b : Bool) (result : Result (Unit {0}) (Fault NotStep)) →
    IsKept p t → given ≢ reply.NoMemory → is_view_deed d ≡ true →
    IsViewFor (book_of p t) (Ok d) v → b ≡ true ↔ given ≡ reply_of v → result ≡ when b → HasAdmitted p t t (Ok d) given result
view_admitted p t d v given b result kept memory is right test done = grind (arith, test_admitted, view_tells, view_only, view_stays, view_rows)

pub change_only : (s : State) (a : Amendment) (given : Reply) → given ≢ reply.NoMemory →
    ((number : ℕ) → given ≡ reply.Edited number → ¬ IsReplyTo s (deed.Change a) (reply.Edited number)) → ((d : Denial) → given ≢ reply.Denied d) →
    ¬ IsReplyTo s (deed.Change a) given
change_only s a given memory edited denied = grind arith

-- denials

-- ---- what was done is what the reply says

pub opened_same : (p : PolicyShape) (before after : CasesShape) (f n : ℕ) (plan : List ℕ) (done : Reply) →
    HasTakenStep p before after (Ok (deed.Open f)) done → IsMadeOf (verdict.Plan plan) done → done ≢ reply.NoMemory → n ≡ before.ever →
    HasTakenStep p before after (Ok (deed.Open f)) (reply.Opened n plan)
opened_same p before after f n plan reply.NoMemory taken made memory is = absurd (memory refl)
opened_same p before after f n plan (reply.Granted q) taken made memory is = absurd (taken.step 0)
opened_same p before after f n plan (reply.Opened m q) taken made memory is =
    let number : m ≡ n = (taken.step 0).0 ∙ sym is in
    subst (λ k. HasTakenStep p before after (Ok (deed.Open f)) (reply.Opened k plan)) number
    (subst (λ x. HasTakenStep p before after (Ok (deed.Open f)) (reply.Opened m x)) made taken)
opened_same p before after f n plan done taken made memory is = absurd made

pub finished_same : (p : PolicyShape) (before after : CasesShape) (d : Duty) (told done : Bool) →
    HasTakenStep p before after (Ok (deed.Finish d)) (reply.Finished done) →
    told ≡ is_done (finished_case d.case d.step).phase → HasTakenStep p before after (Ok (deed.Finish d)) (reply.Finished told)
finished_same p before after d told done taken is = grind arith

-- ---- edits

-- a change that strands a case is not accepted
pub strands_excludes : (p : PolicyShape) (t : CasesShape) (edits : ℕ) (a : Amendment) (n : ℕ) (tree : Tree) (number : ℕ) → IsSoundPolicy p → IsAllowed p a →
    IsStrandingFor (book_of p t) (Ok (deed.Change a)) n tree →
    ¬ IsReplyTo (state_on (board_of p t edits)) (deed.Change a) (reply.Edited number)
strands_excludes p t edits a n tree number sound allowed stranded = grind (arith, stranded_not, changes_keep_policies_sound)

-- the case that a change strands, with its workflow and the trees that show it
pub record IsStrandedCase (p : PolicyShape) (t : CasesShape) (a : Amendment) (n : ℕ) (c : CaseShape) : Type 0 where
  pub shows : (edits : ℕ) (tree : Tree) → IsTreeOf (amended p a) c tree →
      IsReplyTo (state_on (board_of p t edits)) (deed.Change a) (reply.Denied (denial.Strands n c.flow tree))
  pub only : (edits m f : ℕ) (tree : Tree) → IsReplyTo (state_on (board_of p t edits)) (deed.Change a) (reply.Denied (denial.Strands m f tree)) → (m ≡ n) ×
      ((f ≡ c.flow) × IsTreeOf (amended p a) c tree)

pub stranded_here : (p : PolicyShape) (t : CasesShape) (a : Amendment) (n : ℕ) (shown : Tree) (c : CaseShape) → IsSoundPolicy p → IsAllowed p a →
    AscendFrom 0 t.rows → IsStrandingFor (book_of p t) (Ok (deed.Change a)) n shown →
    case_in n t.rows ≡ Some c → IsStrandedCase p t a n c
stranded_here p t a n shown c sound allowed order stranded there = record {
  shows = λ edits tree is.
      subst (λ f. IsFirstStranded q (open_cases (book_of p t).cases) n f tree) (sym flow) (found.others tree (subst (λ k. IsTreeOf q k tree) (sym same) is));
  only = λ edits m f tree is.
      let one = one_stranded q (open_cases (book_of p t).cases) m f n stranded.0 tree shown after is stranded.1 in
      let moved = subst (λ k. IsFirstStranded q (open_cases (book_of p t).cases) k f tree) one.0 is in
      let its = stranded_case q t.rows n f tree order moved in
      (one.0, (one.1 ∙ sym flow, subst (λ k. IsTreeOf q k tree) (same_case its.case c (sym its.there ∙ there)) its.shown));
}
  where
    q : PolicyShape
    q = amended p a

    after : IsSoundPolicy q
    after = changes_keep_policies_sound p a sound allowed.found allowed.allowed

    found : IsFoundCase q n stranded.0 shown t.rows (open_cases (book_of p t).cases)
    found = stranded_case q t.rows n stranded.0 shown order stranded.1

    same : found.case ≡ c
    same = same_case found.case c (sym found.there ∙ there)

    flow : c.flow ≡ stranded.0
    flow = ap (λ (k : CaseShape). k.flow) (sym same) ∙ found.flow

-- there is such a case
pub stranded_exists : {X : Type 0} (p : PolicyShape) (t : CasesShape) (a : Amendment) (n : ℕ) (shown : Tree) → AscendFrom 0 t.rows →
    IsStrandingFor (book_of p t) (Ok (deed.Change a)) n shown → case_in n t.rows ≡ None → X
stranded_exists p t a n shown order stranded none = grind (arith, stranded_case)

-- a denial by the case that a change strands is taken where its tree shows it
pub strands_admitted : (p : PolicyShape) (t : CasesShape) (a : Amendment) (n : ℕ) (c : CaseShape) (m f : ℕ) (tree : Tree) (b : Bool)
    (result : Result (Unit {0}) (Fault NotStep)) → IsKept p t → IsStrandedCase p t a n c →
    m ≡ n → f ≡ c.flow → b ≡ refutes (problem_of (amended p a) c.flow) (assigned_of c) (finished_of c) (shape_of tree) → result ≡ when b →
    HasAdmitted p t t (Ok (deed.Change a)) (reply.Denied (denial.Strands m f tree)) result
strands_admitted p t a n c m f tree b result kept case number flow shows is =
    test_admitted p t (Ok (deed.Change a)) (reply.Denied (denial.Strands m f tree)) b result kept is
    (λ passed edits.
    subst (λ k. IsReplyTo (state_on (board_of p t edits)) (deed.Change a) (reply.Denied (denial.Strands k f tree))) (sym number)
    (subst (λ g. IsReplyTo (state_on (board_of p t edits)) (deed.Change a) (reply.Denied (denial.Strands n g tree))) (sym flow)
    (case.shows edits tree (sym shows ∙ passed))))
    (λ failed edits step. apart failed (shows ∙ (case.only edits m f tree step).1.1))
    (λ s. refl) refl
  where
    apart : {X : Type 0} → b ≡ false → b ≡ true → X
    apart failed passed = let same : true ≡ false = sym passed ∙ failed in cc

-- a reply to an edit that leaves each open case a plan
edited_only : (s : State) (a : Amendment) (given : Reply) → IsSoundPolicy (amended s.book.policy a) →
    CanAllBeCompleted (amended s.book.policy a) (open_cases s.book.cases) → given ≢ reply.NoMemory →
    ((number : ℕ) → given ≢ reply.Edited number) → ¬ IsReplyTo s (deed.Change a) given
edited_only s a given sound all memory edited = grind (arith, stranded_not)

pub edition_only : (s : State) (what : Ask) (edition : EditionShape) (given : Reply) → IsSoundState s →
    IsEditionFor s.book (decision_aside s.book what) edition → given ≢ reply.NoMemory →
    ((number : ℕ) → given ≢ reply.Edited number) → ¬ IsStep s what given
edition_only s what edition given sound is memory edited =
    grind (arith, edited_only, changes_keep_policies_sound, plans_complete, change_decided, edition_change, aside_told)

-- where an opening is left, no limit is reached
pub room_tells : (b : Book) (f : ℕ) → full_or b (deed.Open f) ≡ Ok (deed.Open f) → is_full b ≡ false
room_tells b f left = grind arith
