use Rattle.grant_table.proofs.Replanning.{kept_replanned}
use Rattle.grant_table.proofs.Passed.{passed_replanned}
use Rattle.grant_table.proofs.cases.Cases.replace_plans.Goals as goal

pub invariant_of-self : goal.invariant_of-self
invariant_of-self c =
    rw c.replan.ensures.rows
    (record {
      sound = kept_replanned c.self.inside.ever c.self.inside.live c.self.inside.rows.items c.args.plans.now c.self.invariant.sound;
      passed = passed_replanned c.self.inside.first c.self.inside.rows.items c.args.plans.now c.self.invariant.passed;
    })
