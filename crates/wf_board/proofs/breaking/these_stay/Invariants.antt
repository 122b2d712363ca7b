use Rattle.std.proofs.Common.{take}
use Rattle.wf_board.specs.Laws.Kept.{EachRow, IsPlanned}
use Rattle.wf_board.proofs.breaking.these_stay.Given as goal

-- each row so far has a plan
abbrev pub invariant-rows : goal.invariant-rows
invariant-rows l = EachRow (λ r. IsPlanned l.revision.after.now r.case r.plan) (take l.i l.rows)
