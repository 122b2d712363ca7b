use Rattle.grant_table.proofs.Passed.{open_passed}
use Rattle.grant_table.proofs.rows.open_behind.Goals as goal

pub returns : goal.returns
returns c = rw (c.behind.ensures, open_passed c.args.first c.args.rows.now c.requires.ended) at c.open_rows.ensures
