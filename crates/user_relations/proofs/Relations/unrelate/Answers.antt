use Rattle.user_relations.specs.View.{shapes}
use Rattle.user_relations.proofs.Sound.{sound_unrelate, sound_back}
use Rattle.user_relations.proofs.Relations.unrelate.Goals as goal

pub invariant_of-self : goal.invariant_of-self
invariant_of-self c =
    sound_back c.self.inside.declared.items c.deref_mut.result.now c.change.new.declared c.self.inside.declared.len c.deref_mut.ensures.value
    c.deref_mut.ensures.len c.change.auto.declared c.self.invariant (λ before.
    sound_unrelate (shapes c.deref_mut.result.now) _ c.args.rho c.args.u c.args.v c.change.result before c.change.ensures.changed
    c.change.ensures.fault c.change.ensures.unchanged)
