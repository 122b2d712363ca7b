-- Which plans a board keeps after a reply.
use Rattle.wf_board.proofs.Common.{◌≡◌, ◌≢◌, ◌≤◌, ◌+◌, ℕ, inl, inr, Bool, List, [], ◌∷◌, map, Option, Some, if◌then◌else◌, sym, ap, arith, subst}
use Rattle.wf_board.proofs.Common.{◌∙◌, bool_cases, PolicyShape, Row, CasesShape, is_open_row, open_rows, replanned, replanned_closed, replanned_none}
use Rattle.wf_board.proofs.Common.{replanned_open, Ask, Verdict, Answered, Done, open_cases, EditionShape, book_of, numbered}
use Rattle.wf_board.proofs.Common.{decision_aside, decision_of, ArePlansOf, board_of, IsEditionFor, room_used}
use Rattle.grant_table.specs.Cases.{replanned_row}
use Rattle.wf_talk.specs.declared.reply.Reply.TheVariants as reply
use Rattle.wf_board.specs.declared.verdict.Verdict.TheVariants as verdict
use Rattle.wf_board.specs.Deeds.{LeavesBy}
use Rattle.wf_board.specs.Laws.KeptPlans.{kept_plans}
use Rattle.wf_board.specs.Taking.{HasRowsAfter}
use Rattle.wf_board.proofs.Amended.{edition_change, with_plans}

-- what is left besides, where the table is as it was after want of memory and only an opening takes room
pub leaves_by : (p : PolicyShape) (before after : CasesShape) (edits : ℕ) (what : Ask) (v : Verdict) (given : Answered) →
    ((edition : EditionShape) → v ≢ verdict.Edited edition) →
    HasRowsAfter p before after (decision_of (book_of p before) what) given → (given ≡ Done reply.NoMemory → after ≡ before) →
    before.spare ≤ after.spare + room_used given → LeavesBy (board_of p before edits) (board_of p after edits) what v given
leaves_by p before after edits what v given other rows lacking room = grind arith

-- ---- an edit

-- the rows that are open, if this one is
abbrev kept_onto : Bool → Row → List Row → List (Option (List ℕ))
kept_onto b r rs = map (λ (x : Row). x.plan) (if b then r ∷ open_rows rs else open_rows rs)

abbrev plans_onto : PolicyShape → Bool → Row → List Row → List (List ℕ) → Type 0
plans_onto p b r rs plans = ArePlansOf p (if b then numbered r ∷ open_cases (map numbered rs) else open_cases (map numbered rs)) plans

-- the plans that are kept are those that were handed in
kept_replanned : (p : PolicyShape) (rows : List Row) (plans : List (List ℕ)) → ArePlansOf p (open_cases (map numbered rows)) plans →
    kept_plans (replanned rows plans) ≡ map Some plans
kept_replanned p [] plans are = grind arith
kept_replanned p (r ∷ rs) [] are = elim (bool_cases (is_open_row r)) [
  | inl live ↦ absurd (subst (λ b. plans_onto p b r rs []) live are)
  | inr closed ↦
      ap (λ b. kept_onto b r rs) closed
      ∙ ap kept_plans (sym (replanned_none rs))
      ∙ kept_replanned p rs [] (subst (λ b. plans_onto p b r rs []) closed are)
]
kept_replanned p (r ∷ rs) (plan ∷ plans) are = elim (bool_cases (is_open_row r)) [
  | inl live ↦
      ap kept_plans (replanned_open r rs plan plans live)
      ∙ ap (λ b. kept_onto b (replanned_row plan r) (replanned rs plans)) live
      ∙ ap (λ xs. Some plan ∷ xs) (kept_replanned p rs plans (subst (λ b. plans_onto p b r rs (plan ∷ plans)) live are).1)
  | inr closed ↦
      ap kept_plans (replanned_closed r rs (plan ∷ plans) closed)
      ∙ ap (λ b. kept_onto b r (replanned rs (plan ∷ plans))) closed
      ∙ kept_replanned p rs (plan ∷ plans) (subst (λ b. plans_onto p b r rs (plan ∷ plans)) closed are)
]

pub edition_kept : (p : PolicyShape) (t after : CasesShape) (what : Ask) (edition : EditionShape) →
    IsEditionFor (book_of p t) (decision_aside (book_of p t) what) edition →
    after ≡ with_plans t edition.plans → kept_plans after.rows ≡ map Some edition.plans
edition_kept p t after what edition is end = grind (arith, edition_change, kept_replanned)
