-- What becomes of the plans that a board keeps.
use Rattle.std.specs.Prelude.{◌≡◌, ℕ, false, true, List, length, map, Option, Some, Result, Ok, Err}
use Rattle.policy_book.specs.Laws.Shapes.{PolicyShape}
use Rattle.policy_book.specs.Policies.{flow_at}
use Rattle.grant_table.specs.declared.rows.Row.{Row}
use Rattle.grant_table.specs.Cases.{CasesShape, change_row, finished_row, freed_row, held_row}
use Rattle.grant_table.specs.Cases.{open_rows, with_case, withdrawn_row}
use Rattle.wf_talk.specs.declared.request.Ask.{Ask}
use Rattle.wf_talk.specs.declared.reply.Reply.{Reply}
use Rattle.wf_talk.specs.declared.reply.Reply.TheVariants as reply
use Rattle.wf_talk.specs.declared.reply.Denial.{Denial}
use Rattle.wf_board.specs.declared.deed.Deed.{Deed}
use Rattle.wf_board.specs.declared.deed.Deed.TheVariants as deed
use Rattle.wf_board.specs.declared.verdict.Verdict.{Verdict}
use Rattle.wf_board.specs.declared.verdict.Verdict.TheVariants as verdict
use Rattle.wf_board.specs.declared.verdict.Answered.{Answered}
use Rattle.wf_board.specs.declared.verdict.Answered.TheVariants.{Done, Needs}
use Rattle.wf_board.specs.Boards.{BoardShape, EditionShape, state_on}
use Rattle.wf_board.specs.Counting.{is_edited}
use Rattle.wf_board.specs.Decisions.{decision_of}

-- the cases with their kept plans after a deed by which the policy stays; all that a row does not
-- name stays
abbrev pub rows_after_deed : PolicyShape → CasesShape → Deed → Reply → List Row
rows_after_deed p t (deed.Open f) (reply.Opened n plan) =
    (with_case t f (length (flow_at p f).flow.steps) plan).rows
rows_after_deed p t (deed.Claim d) (reply.Granted plan) =
    change_row d.number (held_row d.step d.user plan) t.rows
rows_after_deed p t (deed.Finish d) (reply.Finished done) =
    change_row d.number (finished_row d.step) t.rows
rows_after_deed p t (deed.GiveBack d) reply.Returned = change_row d.number (freed_row d.step) t.rows
rows_after_deed p t (deed.Release n c s) reply.Released = change_row n (freed_row s) t.rows
rows_after_deed p t (deed.Withdraw n) reply.Withdrawn = change_row n withdrawn_row t.rows
rows_after_deed p t given answer = t.rows

-- the same where the deed or the cause against it is this
abbrev pub rows_after : PolicyShape → CasesShape → Result Deed Denial → Reply → List Row
rows_after p t (Ok given) answer = rows_after_deed p t given answer
rows_after p t (Err d) answer = t.rows

-- the plans that are kept for the open cases, by ascending number
abbrev pub kept_plans : List Row → List (Option (List ℕ))
kept_plans rows = map (λ r. r.plan) (open_rows rows)

-- which plans a board keeps after a reply: where no edit is accepted those that the deed leaves, so
-- all of them after a denial, a view and a bad line; and where a verdict accepts an edit those of
-- the verdict, one for each open case
pub record KeepsPlans (before after : BoardShape) (what : Ask) (v : Verdict) (given : Reply)
    : Type 0 where
  pub rows : is_edited given ≡ false → after.cases.rows
      ≡ rows_after before.policy before.cases (decision_of (state_on before).book what) given
  pub edited : (edition : EditionShape) → v ≡ verdict.Edited edition → is_edited given ≡ true →
      kept_plans after.cases.rows ≡ map Some edition.plans

-- so it does where it has answered
abbrev pub KeepsPlansBy : BoardShape → BoardShape → Ask → Verdict → Answered → Type 0
KeepsPlansBy before after what v Needs = Unit {0}
KeepsPlansBy before after what v (Done given) = KeepsPlans before after what v given
