use Rattle.user_relations.proofs.RowsInPlace.{row_ahead_told}
use Rattle.user_relations.proofs.user_pairs.UserPairs.row_ahead.Goals as goal

pub returns-clause-users : goal.returns-clause-users
returns-clause-users c =
    row_ahead_told c.self.inside.ahead.items c.self.inside.behind.items c.deref.result.now c.self.inside.count c.args.u c.args.self.now c.row_at.result
    c.self.invariant c.self.view_is c.deref.ensures.value c.row_at.ensures.users
