use Rattle.std.proofs.Common.{take}
use Rattle.wf_board.specs.Edition.{ArePlansOf}
use Rattle.case_views.specs.Listing.{open_in}
use Rattle.case_views.proofs.edit_decider.left_open.Given as goal

-- each open case so far has a plan
abbrev pub invariant-rows : goal.invariant-rows
invariant-rows l = ArePlansOf l.revision.after.now (open_in (take l.i l.rows)) l.plans.items
