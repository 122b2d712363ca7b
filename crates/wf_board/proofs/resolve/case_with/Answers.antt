use Rattle.std.proofs.Common.{◌∙◌}
use Rattle.wf_board.proofs.Rows.{case_numbered}
use Rattle.wf_board.proofs.Planned.{known_case}
use Rattle.wf_board.proofs.resolve.case_with.Goals as goal

pub returns-in-Some-clause-case : goal.returns-in-Some-clause-case
returns-in-Some-clause-case c = case_numbered c.args.n c.args.cases.now.rows ∙ c.in-Some.ensures

pub returns-in-Some-clause-known : goal.returns-in-Some-clause-known
returns-in-Some-clause-known c =
    known_case c.args.p.now c.args.cases.now.rows c.args.n _ c.requires c.in-Some.ensures

pub returns-in-None-clause-case : goal.returns-in-None-clause-case
returns-in-None-clause-case c = case_numbered c.args.n c.args.cases.now.rows ∙ c.in-None.ensures
