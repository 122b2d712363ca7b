use Rattle.case_views.proofs.Spreading.{HavePlans}
use Rattle.case_views.proofs.spread.left_of.Given as goal

-- each open case so far has a plan
abbrev pub invariant-rows : goal.invariant-rows
invariant-rows l = HavePlans l.rows l.parts l.i l.plans.items
