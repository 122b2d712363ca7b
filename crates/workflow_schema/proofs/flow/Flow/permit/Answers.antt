use Rattle.std.proofs.Common.{length, ◌∙◌, sym, ap, arith}
use Rattle.basics.specs.Laws.Pairs.{Pairs}
use Rattle.basics.specs.PairLaws.{pair_cmp_total, pair_cmp-IsAntisymmetric, insert_held}
use Rattle.workflow_schema.specs.Tables.{permitted_by}
use Rattle.workflow_schema.specs.Flows.{FlowShape}
use Rattle.basics.proofs.Booleans.{not_false}
use Rattle.workflow_schema.proofs.TableSets.{permitted_by-has, permitted_by-with}
use Rattle.workflow_schema.proofs.Kept.{keeps_permitted}
use Rattle.workflow_schema.proofs.flow.Flow.permit.Goals as goal

pub invariant_of-self : goal.invariant_of-self
invariant_of-self c =
    keeps_permitted c.self.inside.frame.steps.names c.self.inside.frame.order c.self.inside.frame.later c.self.inside.roles c.set_flag.new.rows c.r.inside.0
    c.s.inside.0
    c.self.invariant c.set_flag.ensures
    (omega (arith, c.requires.role_in, c.r.view_is))
    (omega (arith, c.requires.step_in, c.s.view_is, ap (λ (f : FlowShape). length f.steps) c.self.view_is))
    (omega (arith, c.set_flag.auto.rows))

pub returns-clause-permitted : goal.returns-clause-permitted
returns-clause-permitted c = grind (arith, permitted_by-with)

pub returns-clause-changed : goal.returns-clause-changed
returns-clause-changed c = grind (arith, permitted_by-has)

pub returns-clause-unchanged : goal.returns-clause-unchanged
returns-clause-unchanged c h =
    rw (← c.self.view_is)
    (ap (λ (p : Pairs). record { steps = c.self.inside.frame.steps.names; order = c.self.inside.frame.order; permits = p })
    (permitted_by-with c.self.inside.roles c.set_flag.new.rows c.r.inside.0 c.s.inside.0 c.set_flag.ensures
    ∙ insert_held pair_cmp_total pair_cmp-IsAntisymmetric (permitted_by c.self.inside.roles) (c.r.inside.0, c.s.inside.0)
    (permitted_by-has c.self.inside.roles c.r.inside.0 c.s.inside.0 ∙ sym c.has_flag-held.ensures ∙ not_false c.has_flag-held.result h)))
