-- A board and a snapshot of it, as contracts see them.
use Rattle.std.specs.Prelude.{ℕ, List, map}
use Rattle.policy_book.specs.Laws.Shapes.{PolicyShape}
use Rattle.grant_table.specs.declared.rows.Row.{Row}
use Rattle.grant_table.specs.Cases.{CasesShape}
use Rattle.wf_board.specs.Laws.States.{Book, Numbered, State}

-- the policy, the table of cases, and how many edits were accepted
pub record BoardShape : Type 0 where
  pub policy : PolicyShape
  pub cases : CasesShape
  pub edits : ℕ

-- the policy, and a table with some of the cases
pub record SnapShape : Type 0 where
  pub policy : PolicyShape
  pub cases : CasesShape

-- the policy after an edit, with a plan for each case that is open
pub record EditionShape : Type 0 where
  pub policy : PolicyShape
  pub plans : List (List ℕ)

-- a case of a table without its plan
abbrev pub numbered : Row → Numbered
numbered r = record { number = r.number; case = r.case }

-- the book of a policy and a table of cases
abbrev pub book_of : PolicyShape → CasesShape → Book
book_of p t = record { policy = p; cases = map numbered t.rows; ever = t.ever }

-- the state that a board shows
abbrev pub state_on : BoardShape → State
state_on b = record { book = book_of b.policy b.cases; edits = b.edits }

-- the book that a snapshot shows
abbrev pub book_on : SnapShape → Book
book_on s = book_of s.policy s.cases
