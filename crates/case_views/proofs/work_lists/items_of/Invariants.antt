use Rattle.std.proofs.Common.{ℕ}
use Rattle.policy_book.specs.Laws.Shapes.{PolicyShape}
use Rattle.wf_board.specs.Boards.{numbered}
use Rattle.wf_board.specs.Views.{steps_from}
use Rattle.case_views.specs.Granting.{TellsSteps}
use Rattle.case_views.specs.Listing.{AreGrantable}
use Rattle.case_views.proofs.work_lists.items_of.Given as goal

-- where the set has the steps that would be granted, those of the steps so far are listed
abbrev pub invariant-listing : goal.invariant-listing
invariant-listing l = (p : PolicyShape) → (u : ℕ) → TellsSteps p u l.row.case l.found → AreGrantable p u (steps_from (numbered l.row) l.s 0) l.items
