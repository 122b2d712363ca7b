use Rattle.std.proofs.Common.{subst}
use Rattle.policy_book.specs.Laws.Shapes.{PolicyShape}
use Rattle.policy_book.specs.Laws.Facts.{IsSoundPolicy}
use Rattle.policy_book.proofs.policy.Policy.rules.Goals as goal

pub returns-clause-ruled : goal.returns-clause-ruled
returns-clause-ruled c =
    let sound = subst (λ (p : PolicyShape). IsSoundPolicy p) c.self.view_is c.self.invariant.stored.sound in
    (sound.flows c.args.f c.requires).ruled

pub returns-clause-well_formed : goal.returns-clause-well_formed
returns-clause-well_formed c =
    let sound = subst (λ (p : PolicyShape). IsSoundPolicy p) c.self.view_is c.self.invariant.stored.sound in
    λ k rule here. ((sound.flows c.args.f c.requires).ruled k rule here).names
