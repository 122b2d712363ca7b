use Rattle.wf_board.proofs.Exact.{finished_assigned}
use Rattle.case_views.proofs.edit_decider.progress_of.Goals as goal

pub returns-clause-known : goal.returns-clause-known
returns-clause-known c = rw (c.assigned.ensures.value, c.finished.ensures.value) (finished_assigned c.args.case.now)
