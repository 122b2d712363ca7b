use Rattle.std.proofs.Common.{◌∙◌, ap, sym, List}
use Rattle.user_relations.specs.Laws.Relations.{RelationShape, kind_of, is_listed, complement_of}
use Rattle.user_relations.specs.View.{shapes}
use Rattle.user_relations.proofs.Sound.{sound_complement, sound_back}
use Rattle.user_relations.proofs.Relations.make_complement.Goals as goal

pub invariant_of-self : goal.invariant_of-self
invariant_of-self c =
    let same = ap shapes c.deref_mut.ensures.value ∙ c.self.view_is in
    sound_back c.self.inside.declared.items c.deref_mut.result.now c.set_kind.new.declared c.self.inside.declared.len c.deref_mut.ensures.value
    c.deref_mut.ensures.len c.set_kind.auto.declared c.self.invariant (λ before.
    sound_complement (shapes c.deref_mut.result.now) _ c.args.rho c.args.of before
    (ap (λ (rs : List RelationShape). kind_of rs c.args.rho) same ∙ c.requires.bare)
    (ap (λ (rs : List RelationShape). is_listed rs c.args.of) same ∙ c.requires.of_listed)
    c.requires.different
    (λ n e. c.requires.free n (sym (ap (λ (rs : List RelationShape). complement_of rs n) same) ∙ e))
    c.set_kind.ensures)
