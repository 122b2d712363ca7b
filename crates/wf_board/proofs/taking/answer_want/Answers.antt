use Rattle.std.proofs.Common.{subst}
use Rattle.wf_board.specs.Boards.{book_of}
use Rattle.wf_board.specs.Decisions.{decision_of}
use Rattle.wf_board.specs.Taking.{HasAnsweredAlone}
use Rattle.wf_board.proofs.Small.{done_unusable, needed_unusable}
use Rattle.wf_board.proofs.taking.answer_want.Goals as goal

pub returns-in-Done : goal.returns-in-Done
returns-in-Done c = λ v unusable.
    let p = c.args.p.now in
    let before = c.args.cases.now in
    let after = c.without_verdict.new.cases in
    let what = c.args.ask.now in
    done_unusable p before after what v c.in-Done.reply unusable
    (subst (HasAnsweredAlone p before after (decision_of (book_of p before) what)) c.in-Done.is c.without_verdict.ensures)

pub returns-in-Needs : goal.returns-in-Needs
returns-in-Needs c = λ v unusable.
    let p = c.args.p.now in
    let before = c.args.cases.now in
    let after = c.without_verdict.new.cases in
    let what = c.args.ask.now in
    needed_unusable p before after what v unusable c.requires
    (subst (HasAnsweredAlone p before after (decision_of (book_of p before) what)) c.in-Needs.is c.without_verdict.ensures)
