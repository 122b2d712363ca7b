use Rattle.case_record.specs.Cases.{assigned_of, finished_of}
use Rattle.wsp_solver.specs.Searches.{HasSolved}
use Rattle.case_views.proofs.Editing.{said_same}
use Rattle.case_views.proofs.edit_decider.outcome_of.Goals as goal

pub returns : goal.returns
returns c =
    let k = c.args.case.now in
    said_same (λ q a d. HasSolved q a d c.in_ok-outcome.outcome) c.args.p.now k.flow c.flow.result (assigned_of k)
    c.progress_of-assigned.result.0 (finished_of k) c.progress_of-assigned.result.1
    c.flow.ensures c.progress_of-assigned.ensures.assigned c.progress_of-assigned.ensures.finished c.in_ok-outcome.ensures
