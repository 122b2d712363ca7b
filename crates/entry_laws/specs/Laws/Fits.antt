-- Every line that is written of a legal history fits a line of an audit.
use Rattle.std.specs.Prelude.{ℕ, ◌+◌, ◌<◌, ◌≤◌, ◌^◌, List, [], ◌∷◌, ◌++◌, length}
use Rattle.wf_names.specs.declared.limits.TheConstants.{TRANSCRIPT_LINE_LIMIT}
use Rattle.policy_book.specs.Laws.Shapes.{PolicyShape}
use Rattle.policy_book.specs.Laws.Facts.{IsSoundPolicy}
use Rattle.wf_talk.specs.declared.entry.Entry.{Entry}
use Rattle.wf_talk.specs.Jobs.{IsNamedAsk}
use Rattle.wf_board.specs.Laws.States.{opening_state}
use Rattle.wf_board.specs.Laws.Histories.{AreRightful, IsLegal, state_after}
use Rattle.line_reader.specs.Laws.{AddsNamed}
use Rattle.entry_reader.specs.Named.{HasNames}
use Rattle.entry_laws.specs.Laws.{HasFewSteps}
use Rattle.entry_laws.specs.Laws.Transcripts.{texts_of}

-- an entry answers a line of an input: its lane and line fit, and what it names has a name's form
pub record IsOfLine (e : Entry) : Type 0 where
  pub lane : e.lane < 2 ^ 8
  pub line : e.line < 2 ^ 32
  pub named : IsNamedAsk e.ask
  pub adds : AddsNamed e.ask

-- each of these entries does
abbrev pub AreOfLines : List Entry → Type 0
AreOfLines [] = Unit {0}
AreOfLines (e ∷ es) = IsOfLine e × AreOfLines es

-- entries that a session made behind others: with those they are a legal history of a sound policy,
-- whose names have a name's form where the first of them comes; each answers a line of an input,
-- and none shows a tree that is too large
pub record ComeBehind (p : PolicyShape) (rounds : ℕ) (earlier entries : List Entry) : Type 0 where
  pub policy : IsSoundPolicy p
  pub steps : HasFewSteps p
  pub legal : IsLegal (opening_state p) rounds (earlier ++ entries)
  pub few_rounds : rounds < 2 ^ 8
  pub few_entries : length earlier + length entries < 2 ^ 32
  pub names : HasNames (state_after (opening_state p) earlier).book.policy
  pub lines : AreOfLines entries
  pub rightful : AreRightful entries

-- each of these texts is, its LF aside, no longer than a line of an audit
abbrev pub FitLines : List (List ℕ) → Type 0
FitLines [] = Unit {0}
FitLines (text ∷ texts) = (length text ≤ TRANSCRIPT_LINE_LIMIT + 1) × FitLines texts

-- the texts of such entries, each with the names of the policy after it, all fit
abbrev pub LinesFit : Type 0
LinesFit =
    (p : PolicyShape) (rounds : ℕ) (earlier entries : List Entry) →
    ComeBehind p rounds earlier entries →
    FitLines (texts_of (state_after (opening_state p) earlier) entries)
