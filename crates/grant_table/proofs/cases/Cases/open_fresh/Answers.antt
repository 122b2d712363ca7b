use Rattle.std.proofs.Common.{◌<◌, refl, arith, ap}
use Rattle.case_record.specs.Cases.{is_open}
use Rattle.wf_names.specs.declared.limits.TheConstants.{OPEN_CASE_LIMIT}
use Rattle.grant_table.specs.Cases.{open_count}
use Rattle.grant_table.proofs.Keeping.{kept_added}
use Rattle.grant_table.proofs.Passed.{passed_added}
use Rattle.grant_table.proofs.cases.Cases.open_fresh.Goals as goal

pub invariant_of-self : goal.invariant_of-self
invariant_of-self c =
    let few : open_count c.self.inside.rows.items < OPEN_CASE_LIMIT = rw (← c.self.view_is) at c.requires.open in
    rw c.push_reserved.ensures.items
    (record {
      sound =
          kept_added c.self.inside.ever c.self.inside.live c.self.inside.rows.items _ c.self.invariant.sound refl (ap is_open c.fresh.ensures.case) refl
          (omega (arith, c.self.invariant.sound.counted, few)) (rw (← c.self.view_is) at c.requires.ever);
      passed = passed_added c.self.inside.first c.self.inside.rows.items _ c.self.invariant.passed;
    })
