use Rattle.grant_table.proofs.Parts.{kept_open}
use Rattle.grant_table.proofs.Passed.{kept_anew}
use Rattle.grant_table.proofs.cases.Cases.copy_open.Goals as goal

pub invariant_of-result : goal.invariant_of-result
invariant_of-result c =
    rw (c.in_ok-open_behind.ensures, c.deref.ensures.value)
    (kept_anew _ _ _ (kept_open c.self.inside.ever c.self.inside.live c.self.inside.rows.items c.self.invariant.sound))
