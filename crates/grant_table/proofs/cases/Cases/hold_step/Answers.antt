use Rattle.std.proofs.Common.{refl, ◌∙◌, arith}
use Rattle.grant_table.specs.Cases.{held_row}
use Rattle.grant_table.proofs.Keeping.{there_again, table_put}
use Rattle.grant_table.proofs.cases.Cases.hold_step.Goals as goal

pub put_row-requires-clause-there : goal.put_row-requires-clause-there
put_row-requires-clause-there c = grind (arith, there_again)

pub returns : goal.returns
returns c = c.put_row.ensures ∙
    table_put c.args.self.now c.args.c c.row-row.result c.hold.new.row (held_row c.args.s c.args.u c.args.plan) c.row-row.ensures.row c.hold.ensures refl
