use Rattle.std.proofs.Common.{refl, ◌∙◌, arith}
use Rattle.grant_table.specs.Cases.{withdrawn_row}
use Rattle.grant_table.proofs.Keeping.{known, there_again, table_put}
use Rattle.grant_table.proofs.cases.Cases.withdraw.Goals as goal

pub put_row-requires-clause-there : goal.put_row-requires-clause-there
put_row-requires-clause-there c = grind (arith, there_again, known)

pub returns : goal.returns
returns c = c.put_row.ensures ∙
    table_put c.args.self.now c.args.c c.row-row.result c.withdraw.new.row withdrawn_row c.row-row.ensures.row c.withdraw.ensures refl
