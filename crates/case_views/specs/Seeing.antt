-- Inside: what was found of cases that came before.
use Rattle.std.specs.Prelude.{Bool, MatchBool}
use Rattle.std.specs.List.{All}
use Rattle.policy_book.specs.Laws.Shapes.{PolicyShape}
use Rattle.case_record.specs.Cases.{CaseShape}
use Rattle.wf_board.specs.Edition.{CanBeCompleted}
use Rattle.case_views.specs.declared.seen.Seen.{Seen}

-- a test tells whether a case can be completed under a policy
abbrev pub IsTold : PolicyShape → CaseShape → Bool → Type 0
IsTold p c b = MatchBool b (CanBeCompleted p c) (¬ CanBeCompleted p c)

-- what was found is right under a policy
abbrev pub TellsRight : PolicyShape → Seen → Type 0
TellsRight p seen = All (λ t. IsTold p t.case t.completable) seen.told.items
