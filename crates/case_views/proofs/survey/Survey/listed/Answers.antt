use Rattle.std.proofs.Common.{IfOk, sym, subst}
use Rattle.wf_board.specs.Boards.{book_of}
use Rattle.wf_board.specs.Deeds.{DecidesDeed}
use Rattle.case_views.proofs.Deciding.{change_listed}
use Rattle.case_views.proofs.survey.Survey.listed.Goals as goal

pub returns-in-Change : goal.returns-in-Change
returns-in-Change g c =
    let b = book_of c.args.self.now.policy.now c.args.self.now.cases.now in
    subst (λ d. IfOk c.edited.result (DecidesDeed b d)) (sym c.in-Change.is) (change_listed b c.in-Change.amendment c.edited.result c.edited.ensures)
