use Rattle.wf_board.proofs.Admission.{finished_same}
use Rattle.wf_board.proofs.admit.finish_as.Goals as goal

pub returns : goal.returns
returns c =
    finished_same c.args.p.now c.args.cases.now c.finish.new.cases c.args.duty.now c.args.done c.finish.result
    c.finish.ensures (c.is_told.ensures.0 c.if-not-is_told.false)
