-- Verdicts on whether a case can be completed.
use Rattle.std.specs.Prelude.{◌≡◌, ◌≢◌, ℕ, Bool, false, true, List, [], Result, Ok, IsTrue}
use Rattle.std.proofs.Common.{◌⊎◌}
use Rattle.constraint_forms.specs.Assign.{no_users, no_steps}
use Rattle.refutation_tree.specs.Laws.Views.{shape_of}
use Rattle.policy_book.specs.Policies.{problem_of}
use Rattle.policy_book.specs.Laws.Plans.{IsValidPlan}
use Rattle.policy_book.specs.Laws.Refuting.{refutes}
use Rattle.case_record.specs.Cases.{finished_of}
use Rattle.grant_table.specs.declared.rows.Row.{Row}
use Rattle.grant_table.specs.Cases.{only, open_rows}
use Rattle.wf_talk.specs.declared.request.Request.TheVariants as request
use Rattle.wf_talk.specs.declared.request.Ask.{Ask}
use Rattle.wf_talk.specs.declared.request.Ask.TheVariants as ask
use Rattle.wf_talk.specs.declared.reply.Reply.{Reply}
use Rattle.wf_talk.specs.declared.reply.Reply.TheVariants as reply
use Rattle.wf_talk.specs.declared.reply.Denial.{Denial}
use Rattle.wf_talk.specs.declared.reply.Denial.TheVariants as denial
use Rattle.refutation_tree.specs.declared.tree.Tree.{Tree}
use Rattle.admin_edits.specs.ClaimCauses.{assigned_with}
use Rattle.admin_edits.specs.Laws.Edits.{amended}
use Rattle.wf_board.specs.declared.deed.Deed.{Deed}
use Rattle.wf_board.specs.declared.deed.Deed.TheVariants as deed
use Rattle.wf_board.specs.declared.verdict.Verdict.{Verdict}
use Rattle.wf_board.specs.declared.verdict.Verdict.TheVariants as verdict
use Rattle.wf_board.specs.declared.verdict.View.{View}
use Rattle.wf_board.specs.declared.verdict.View.TheVariants as view
use Rattle.wf_board.specs.declared.verdict.Answered.{Answered}
use Rattle.wf_board.specs.declared.verdict.Answered.TheVariants.{Done, Needs}
use Rattle.wf_board.specs.Laws.States.{Book, open_cases}
use Rattle.wf_board.specs.Boards.{BoardShape, EditionShape, SnapShape, state_on}
use Rattle.wf_board.specs.Edition.{ArePlansOf, IsFirstStranded}
use Rattle.wf_board.specs.Views.{AreStranded, IsWorkOf}
use Rattle.wf_board.specs.Decisions.{decision_aside, decision_of, needs_verdict, takes_memory}
use Rattle.wf_board.specs.Laws.Steps.{IsStep, room_taken, state_after_step}
use Rattle.wf_board.specs.Limits.{is_large, shows_large}

-- a plan by which the case of a deed can be completed
abbrev pub IsPlanFor : Book → Result Deed Denial → List ℕ → Type 0
IsPlanFor b (Ok (deed.Open f)) plan = IsValidPlan (problem_of b.policy f) no_users no_steps plan
IsPlanFor b (Ok (deed.Claim d)) plan =
    IsValidPlan (problem_of b.policy d.case.flow) (assigned_with d.case d.step d.user)
    (finished_of d.case) plan
IsPlanFor b given plan = ⊥

-- a tree that shows that the case of a deed cannot be completed
abbrev pub IsTreeFor : Book → Result Deed Denial → Tree → Type 0
IsTreeFor b (Ok (deed.Open f)) tree =
    IsTrue (refutes (problem_of b.policy f) no_users no_steps (shape_of tree))
IsTreeFor b (Ok (deed.Claim d)) tree =
    IsTrue (refutes (problem_of b.policy d.case.flow) (assigned_with d.case d.step d.user)
    (finished_of d.case) (shape_of tree))
IsTreeFor b given tree = ⊥

-- an edition of a deed that changes the policy: the changed policy, with a valid plan for each open
-- case
abbrev pub IsEditionFor : Book → Result Deed Denial → EditionShape → Type 0
IsEditionFor b (Ok (deed.Change a)) edition =
    (edition.policy ≡ amended b.policy a) ×
    ArePlansOf edition.policy (open_cases b.cases) edition.plans
IsEditionFor b given edition = ⊥

-- a tree that shows that a deed which changes the policy leaves the case with a number, the first
-- such, without a plan
abbrev pub IsStrandingFor : Book → Result Deed Denial → ℕ → Tree → Type 0
IsStrandingFor b (Ok (deed.Change a)) n tree =
    (f : ℕ) × IsFirstStranded (amended b.policy a) (open_cases b.cases) n f tree
IsStrandingFor b given n tree = ⊥

-- a view that is asked for: the user's work, or the open cases that the edit would strand
abbrev pub IsViewFor : Book → Result Deed Denial → View → Type 0
IsViewFor b (Ok (deed.Work u)) (view.Work items) = IsWorkOf b u items
IsViewFor b (Ok (deed.WhatIf a)) (view.WhatIf numbers) =
    AreStranded (amended b.policy a) (open_cases b.cases) numbers
IsViewFor b given v = ⊥

-- a verdict is right: no earlier check denies what is asked, `full` aside, and its plan, tree or
-- view is one for the deed
abbrev pub IsRight : Book → Ask → Verdict → Type 0
IsRight b what verdict.Nothing = Unit {0}
IsRight b what verdict.NoMemory = Unit {0}
IsRight b what verdict.OverBudget = Unit {0}
IsRight b what (verdict.Plan plan) = IsPlanFor b (decision_aside b what) plan
IsRight b what (verdict.Refuted tree) = IsTreeFor b (decision_aside b what) tree
IsRight b what (verdict.Edited edition) = IsEditionFor b (decision_aside b what) edition
IsRight b what (verdict.Strands n tree) = IsStrandingFor b (decision_aside b what) n tree
IsRight b what (verdict.View v) = IsViewFor b (decision_aside b what) v

-- a plan or a tree decides a deed; an edit or a view is decided by neither
abbrev pub IsCertificate : Book → Result Deed Denial → Verdict → Type 0
IsCertificate b given (verdict.Plan plan) = IsPlanFor b given plan
IsCertificate b given (verdict.Refuted tree) = IsTreeFor b given tree
IsCertificate b given v = ⊥

-- a plan or a tree decides what is asked: no cause is against it, and nothing else is left to
-- decide
abbrev pub IsCertified : Book → Ask → Verdict → Type 0
IsCertified b what v = IsCertificate b (decision_of b what) v

-- the verdict is nothing exactly where an earlier check decides, `full` aside, or no verdict is
-- needed
pub record Decides (b : Book) (what : Ask) (v : Verdict) : Type 0 where
  pub right : IsRight b what v
  pub nothing : needs_verdict (decision_aside b what) ≡ false → v ≡ verdict.Nothing
  pub something : needs_verdict (decision_aside b what) ≡ true → v ≢ verdict.Nothing

-- a reply is made of this very verdict, where one was needed, and shows no tree that is too large
abbrev pub IsMadeOf : Verdict → Reply → Type 0
IsMadeOf v reply.NoMemory = Unit {0}
IsMadeOf (verdict.Plan plan) (reply.Granted q) = q ≡ plan
IsMadeOf (verdict.Plan plan) (reply.Opened n q) = q ≡ plan
IsMadeOf (verdict.Refuted tree) (reply.Denied (denial.Stranded f t)) = (t ≡ tree) ×
    (is_large tree ≡ false)
IsMadeOf (verdict.Refuted tree) (reply.Denied (denial.Unsatisfiable f t)) = (t ≡ tree) ×
    (is_large tree ≡ false)
IsMadeOf (verdict.Edited edition) (reply.Edited number) = Unit {0}
IsMadeOf (verdict.Strands n tree) (reply.Denied (denial.Strands m f t)) = (m ≡ n) ×
    ((t ≡ tree) × (is_large tree ≡ false))
IsMadeOf (verdict.View (view.Work items)) (reply.Work given) = given ≡ items
IsMadeOf (verdict.View (view.WhatIf numbers)) (reply.WhatIf given) = given ≡ numbers
IsMadeOf v given = ⊥

-- what the board answered is made of this very verdict; it needs one only where there is none
abbrev pub HasUsed : Verdict → Answered → Type 0
HasUsed v Needs = v ≡ verdict.Nothing
HasUsed v (Done given) = IsMadeOf v given

-- the board has used a verdict that was needed: it still needs one where none was given, and else
-- what it answered is made of the verdict
pub record UsesVerdict (v : Verdict) (given : Answered) : Type 0 where
  pub needs : v ≡ verdict.Nothing → given ≡ Needs
  pub made : HasUsed v given

-- what the board answered shows a tree that is too large
abbrev pub has_shown_large : Answered → Bool
has_shown_large Needs = false
has_shown_large (Done given) = shows_large given

-- how much of the room for more cases an answer takes
abbrev pub room_used : Answered → ℕ
room_used Needs = 0
room_used (Done given) = room_taken given

-- an opening, where nothing stands against it
abbrev pub is_opening : Result Deed Denial → Bool
is_opening (Ok (deed.Open f)) = true
is_opening given = false

-- a verdict that was not found out: there was no memory, or the search would keep more than its
-- budget
abbrev pub is_want : Verdict → Bool
is_want verdict.NoMemory = true
is_want verdict.OverBudget = true
is_want v = false

-- a verdict that no reply can be made of: it was not found out, or its tree is too large for an
-- entry
abbrev pub is_unusable : Verdict → Bool
is_unusable (verdict.Refuted tree) = is_large tree
is_unusable (verdict.Strands n tree) = is_large tree
is_unusable v = is_want v

-- where want of memory may be answered: no reply can be made of the verdict, where one is needed,
-- or there was none for the list of roles of a denial, or for an opening without room
abbrev pub MayLackMemory : BoardShape → Ask → Verdict → Type 0
MayLackMemory b what v =
    ((is_unusable v ≡ true) × (needs_verdict (decision_of (state_on b).book what) ≡ true))
    ⊎ ((takes_memory (decision_of (state_on b).book what) ≡ true)
    ⊎ ((is_opening (decision_of (state_on b).book what) ≡ true) × (b.cases.spare ≡ 0)))

-- where want of memory may be answered once a decider was there: a verdict is needed, and none was
-- given or no reply can be made of it; or there was none for the list of roles of a denial, or for
-- an opening without room
abbrev pub LacksMemory : BoardShape → Ask → Verdict → Type 0
LacksMemory b what v =
    (((v ≡ verdict.Nothing) ⊎ (is_unusable v ≡ true)) ×
    (needs_verdict (decision_of (state_on b).book what) ≡ true))
    ⊎ ((takes_memory (decision_of (state_on b).book what) ≡ true)
    ⊎ ((is_opening (decision_of (state_on b).book what) ≡ true) × (b.cases.spare ≡ 0)))

-- the reply was decided with a verdict, or with a decider's where one was needed and none was given
pub record IsDecided (b : BoardShape) (what : Ask) (v : Verdict) (given : Reply) : Type 0 where
  pub step : IsStep (state_on b) what given
  pub made : needs_verdict (decision_of (state_on b).book what) ≡ true → v ≢ verdict.Nothing →
      IsMadeOf v given
  pub memory : given ≡ reply.NoMemory → LacksMemory b what v
  pub small : shows_large given ≡ false

-- the board has answered
abbrev pub HasAnswered : BoardShape → BoardShape → Ask → Verdict → Answered → Type 0
HasAnswered before after what v Needs =
    (needs_verdict (decision_of (state_on before).book what) ≡ true) ×
    ((v ≡ verdict.Nothing) × (after ≡ before))
HasAnswered before after what v (Done given) =
    IsStep (state_on before) what given ×
    (state_on after ≡ state_after_step (state_on before) what given)

-- the rows that a snapshot has for what is asked: the one case of a claim, the open cases for an
-- edit or a view over them, and else none
abbrev pub snap_rows : List Row → Ask → List Row
snap_rows rows (ask.Request (request.Claim n step user)) = only n rows
snap_rows rows (ask.Request (request.Change by edit)) = open_rows rows
snap_rows rows (ask.Request (request.Worklist user)) = open_rows rows
snap_rows rows (ask.Request (request.WhatIf by edit)) = open_rows rows
snap_rows rows what = []

-- the snapshot of a board for what is asked, with so much room
abbrev pub snap_of : BoardShape → Ask → ℕ → SnapShape
snap_of b what spare = record {
  policy = b.policy;
  cases = record { rows = snap_rows b.cases.rows what; ever = b.cases.ever; spare = spare };
}
