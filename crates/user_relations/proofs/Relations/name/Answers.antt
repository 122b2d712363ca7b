use Rattle.std.proofs.Common.{◌∙◌, ap, sym, subst, List, nat_eq}
use Rattle.std.specs.Prelude.{slice_get}
use Rattle.std.specs.Cmp.Lexicographic.{pointwise}
use Rattle.std.specs.List.{IsDistinct}
use Rattle.wf_names.proofs.Places.{place_of-name}
use Rattle.user_relations.specs.Laws.Relations.{RelationShape, known_names}
use Rattle.user_relations.specs.View.{shapes}
use Rattle.user_relations.proofs.Relations.name.Goals as goal

pub returns-clause-alone : goal.returns-clause-alone
returns-clause-alone c =
    let distinct = subst (λ (rs : List RelationShape). IsDistinct (pointwise nat_eq) (known_names rs)) c.self.view_is c.self.invariant.names in
    place_of-name (known_names c.args.self.now) c.args.rho c.name.result distinct
    (ap (λ (rs : List RelationShape). slice_get (known_names rs) c.args.rho) (sym (ap shapes c.deref.ensures.value ∙ c.self.view_is)) ∙ c.name.ensures)
