use Rattle.wf_board.specs.Boards.{book_of}
use Rattle.case_views.proofs.Deciding.{unfound_decides}
use Rattle.case_views.proofs.survey.Survey.verdict.Goals as goal

pub returns-in-Err : goal.returns-in-Err
returns-in-Err g c =
    unfound_decides (book_of c.args.self.now.policy.now c.args.self.now.cases.now) c.args.deed.now c.in-Err.unfound c.verdict_without.result
    c.requires.over c.verdict_without.ensures
