use Rattle.std.proofs.Common.{ap, ◌∙◌}
use Rattle.policy_book.specs.Laws.Shapes.{PolicyShape}
use Rattle.grant_table.specs.Cases.{CasesShape}
use Rattle.wf_board.specs.Boards.{book_of, book_on}
use Rattle.wf_board.proofs.Deeds.{nothing_decides, refused_needs_none}
use Rattle.wf_board.proofs.decider.Decider.decide.Goals as goal

pub returns-in-Err : goal.returns-in-Err
returns-in-Err g c =
    let same = ap (λ (p : PolicyShape). book_of p c.cases.result.now) c.policy.ensures.policy ∙
    ap (λ (t : CasesShape). book_of c.args.snap.now.policy t) c.cases.ensures.cases in
    rw c.no_verdict.ensures
    (nothing_decides (book_on c.args.snap.now) (book_of c.policy.result.now c.cases.result.now) c.args.ask.now same
    (refused_needs_none _ c.in-Err.refused c.in-Err.ensures.decision c.in-Err.ensures.memory))
