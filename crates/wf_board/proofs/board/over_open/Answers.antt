use Rattle.std.proofs.Common.{sym, subst}
use Rattle.grant_table.specs.Cases.{CasesShape}
use Rattle.wf_board.specs.Boards.{book_of}
use Rattle.wf_board.specs.Deeds.{FitsDeed}
use Rattle.wf_board.specs.Laws.Kept.{ArePlanned}
use Rattle.wf_board.proofs.Deeds.{fits_open}
use Rattle.wf_board.proofs.Planned.{planned_live}
use Rattle.wf_board.proofs.board.over_open.Goals as goal

pub decide_deed-requires-clause-kept : goal.decide_deed-requires-clause-kept
decide_deed-requires-clause-kept g c =
    subst (λ (t : CasesShape). ArePlanned c.args.p.now t.rows) (sym c.in-Ok.ensures) (planned_live c.args.p.now c.args.cases.now.rows c.requires.kept)

pub returns-in-Ok-clause-fits : goal.returns-in-Ok-clause-fits
returns-in-Ok-clause-fits g c =
    fits_open c.args.p.now c.args.cases.now.rows c.args.cases.now.ever c.args.deed.now c.decide_deed.result c.requires.over
    (subst (λ (t : CasesShape). FitsDeed (book_of c.args.p.now t) c.args.deed.now c.decide_deed.result) c.in-Ok.ensures c.decide_deed.ensures.fits)
