use Rattle.basics.proofs.Booleans.{not_yes}
use Rattle.wf_board.proofs.Unbroken.{plan_of_row, row_planned}
use Rattle.wf_board.proofs.breaking.stays.Goals as goal

pub may_break-requires-clause-valid : goal.may_break-requires-clause-valid
may_break-requires-clause-valid c =
    plan_of_row c.args.revision.now.before.now c.args.row.now.case c.case.result.now c.args.row.now.plan c.in-Some.plan c.in-Some.ensures c.case.ensures
    c.requires.planned

pub returns-in-Some : goal.returns-in-Some
returns-in-Some c = λ kept.
    row_planned c.args.revision.now.after.now c.args.row.now.case c.case.result.now c.args.row.now.plan c.in-Some.plan c.in-Some.ensures c.case.ensures
    (c.may_break.ensures (not_yes c.may_break.result kept))
