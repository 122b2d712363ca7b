use Rattle.std.proofs.Common.{◌∙◌, sym, ap, arith}
use Rattle.basics.specs.Laws.Pairs.{Pairs}
use Rattle.basics.specs.PairLaws.{pair_cmp_total, pair_cmp-IsAntisymmetric, remove_absent}
use Rattle.workflow_schema.specs.Tables.{permitted_by}
use Rattle.workflow_schema.proofs.TableSets.{permitted_by-has, permitted_by-without}
use Rattle.workflow_schema.proofs.Kept.{keeps_forbidden}
use Rattle.workflow_schema.proofs.flow.Flow.forbid.Goals as goal

pub invariant_of-self : goal.invariant_of-self
invariant_of-self c =
    keeps_forbidden c.self.inside.frame.steps.names c.self.inside.frame.order c.self.inside.frame.later c.self.inside.roles c.clear_flag.new.rows
    c.r.inside.0 c.s.inside.0
    c.self.invariant c.clear_flag.ensures
    (omega (arith, c.clear_flag.auto.rows))

pub returns-clause-forbidden : goal.returns-clause-forbidden
returns-clause-forbidden c = grind (arith, permitted_by-without)

pub returns-clause-changed : goal.returns-clause-changed
returns-clause-changed c = grind (arith, permitted_by-has)

pub returns-clause-unchanged : goal.returns-clause-unchanged
returns-clause-unchanged c h =
    rw (← c.self.view_is)
    (ap (λ (p : Pairs). record { steps = c.self.inside.frame.steps.names; order = c.self.inside.frame.order; permits = p })
    (permitted_by-without c.self.inside.roles c.clear_flag.new.rows c.r.inside.0 c.s.inside.0 c.clear_flag.ensures
    ∙ remove_absent pair_cmp_total pair_cmp-IsAntisymmetric (permitted_by c.self.inside.roles) (c.r.inside.0, c.s.inside.0)
    (permitted_by-has c.self.inside.roles c.r.inside.0 c.s.inside.0 ∙ sym c.has_flag-held.ensures ∙ h)))
