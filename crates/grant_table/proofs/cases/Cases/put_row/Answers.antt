use Rattle.std.proofs.Common.{cond, arith}
use Rattle.grant_table.proofs.Keeping.{kept_put, counts_one}
use Rattle.grant_table.proofs.Passed.{passed_put}
use Rattle.grant_table.proofs.cases.Cases.put_row.Goals as goal

pub still_open-self-inside-requires : goal.still_open-self-inside-requires
still_open-self-inside-requires c = counts_one c.self.inside.ever c.self.inside.live c.self.inside.rows.items c.args.row.now c.args.has_ended
    c.self.invariant.sound (rw (← c.self.view_is) at c.requires.there)

pub past_ended-self-inside-requires : goal.past_ended-self-inside-requires
past_ended-self-inside-requires c =
    rw (c.deref.ensures.value, c.put.ensures.rows)
    (passed_put c.self.inside.first c.self.inside.rows.items c.args.row.now (cond c.args.has_ended 1 0) c.self.invariant.passed
    (rw (← c.self.view_is) at c.requires.there))

pub invariant_of-self : goal.invariant_of-self
invariant_of-self c =
    let sound =
    kept_put c.self.inside.ever c.self.inside.live c.still_open-self-inside.result c.self.inside.rows.items c.args.row.now c.args.has_ended
    c.self.invariant.sound
    (rw (← c.self.view_is) at c.requires.there) c.requires.planned c.still_open-self-inside.ensures in
    record { sound = rw c.put.ensures.rows sound; passed = rw c.deref.ensures.value at c.past_ended-self-inside.ensures }

pub returns : goal.returns
returns c = grind arith
