use Rattle.rule_core.proofs.Assigned.{assigned_in}
use Rattle.rule_core.proofs.Trying.{core_blocks}
use Rattle.rule_core.proofs.search.plan_or_clash.Goals as goal

pub solve-requires-clause-assigned : goal.solve-requires-clause-assigned
solve-requires-clause-assigned c = assigned_in c.args.case.now

pub returns-in_ok-rules-in-Refuted : goal.returns-in_ok-rules-in-Refuted
returns-in_ok-rules-in-Refuted c =
    let core = c.in_ok-rules-in-Refuted.ensures in
    (core, core_blocks _ _ _ _ core)
