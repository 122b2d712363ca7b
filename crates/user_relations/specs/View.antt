-- Inside: the kept relations as contracts see them.
use Rattle.std.specs.Prelude.{List, map}
use Rattle.user_relations.specs.declared.kinds.Kind.{Kind}
use Rattle.user_relations.specs.declared.kinds.Kind.TheVariants.{Listed, Complement}
use Rattle.user_relations.specs.declared.kinds.Relation.{Relation}
use Rattle.user_relations.specs.Laws.Relations.{RelationShape, RelationKind, listed, complement}

abbrev pub kind_view : Kind → RelationKind
kind_view (Listed pairs) = listed pairs
kind_view (Complement rho) = complement rho

abbrev pub relation_view : Relation → RelationShape
relation_view relation = record { name = relation.name; kind = kind_view relation.kind }

abbrev pub shapes : List Relation → List RelationShape
shapes relations = map relation_view relations
