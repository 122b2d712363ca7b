use Rattle.std.proofs.Common.{◌∙◌, sym, arith}
use Rattle.basics.specs.PairLaws.{pair_cmp_total, pair_cmp-IsAntisymmetric, insert_held}
use Rattle.basics.proofs.Booleans.{not_false}
use Rattle.workflow_schema.specs.Tables.{pairs_in}
use Rattle.workflow_schema.proofs.TableSets.{pairs_in-has, pairs_in-with}
use Rattle.workflow_schema.proofs.pairs.StepPairs.insert.Goals as goal

pub invariant_of-self : goal.invariant_of-self
invariant_of-self c = omega (arith, c.self.invariant, c.set_flag.auto.rows)

pub returns-clause-added : goal.returns-clause-added
returns-clause-added c = grind (arith, pairs_in-with)

pub returns-clause-fresh : goal.returns-clause-fresh
returns-clause-fresh c = grind (arith, pairs_in-has)

pub returns-clause-unchanged : goal.returns-clause-unchanged
returns-clause-unchanged c h =
    rw (← c.self.view_is)
    (pairs_in-with c.self.inside.rows c.set_flag.new.rows c.s.inside.0 c.t.inside.0 c.set_flag.ensures
    ∙ insert_held pair_cmp_total pair_cmp-IsAntisymmetric (pairs_in c.self.inside.rows) (c.s.inside.0, c.t.inside.0)
    (pairs_in-has c.self.inside.rows c.s.inside.0 c.t.inside.0 ∙ sym c.has_flag-held.ensures ∙ not_false c.has_flag-held.result h))
