use Rattle.grant_table.proofs.Places.{place_put}
use Rattle.grant_table.proofs.rows.put.Goals as goal

pub returns-clause-rows : goal.returns-clause-rows
returns-clause-rows c = place_put c.args.row.now.number c.args.rows.now.items c.in-Some.i c.args.row.now (rw c.deref.ensures.value at c.in-Some.ensures.place)
