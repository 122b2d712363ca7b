use Rattle.std.proofs.Common.{IfOk, arith}
use Rattle.wsp_solver.specs.Searches.{HasSolved}
use Rattle.admin_edits.specs.ClaimCauses.{assigned_with}
use Rattle.case_record.specs.Cases.{finished_of}
use Rattle.case_views.proofs.Deciding.{search_assigned, search_within}
use Rattle.case_views.proofs.Editing.{said_same}
use Rattle.case_views.proofs.found.outcome_with.Goals as goal

pub solve_within-requires-clause-within : goal.solve_within-requires-clause-within
solve_within-requires-clause-within c =
    rw (c.flow.ensures, c.assigned_with-assigned.ensures.given)
    (search_within c.args.p.now c.args.case.now c.args.kept.now c.args.step c.args.user c.requires)

pub solve_within-requires-clause-assigned : goal.solve_within-requires-clause-assigned
solve_within-requires-clause-assigned c =
    rw (c.finished.ensures.value, c.assigned_with-assigned.ensures.given)
    (search_assigned c.args.case.now c.args.step c.args.user (omega (arith, c.assigned_with-assigned.ensures.len, c.assigned_with-assigned.ensures.within)))

pub returns-in-None : goal.returns-in-None
returns-in-None c =
    let k = c.args.case.now in
    said_same (λ q a d. IfOk c.solve_within.result (HasSolved q a d)) c.args.p.now k.flow c.flow.result (assigned_with k c.args.step c.args.user)
    c.assigned_with-assigned.result (finished_of k) c.finished.result
    c.flow.ensures c.assigned_with-assigned.ensures.given c.finished.ensures.value c.solve_within.ensures.solved
