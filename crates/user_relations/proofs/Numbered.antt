-- Kinds of relations by their numbers, in the list and in the view of what is kept.
use Rattle.std.proofs.Common.{◌≡◌, ℕ, zero, suc, ◌+◌, List, [], ◌∷◌, length, get_or, refl, sym, ap, ◌∙◌, subst, arith}
use Rattle.std.specs.Prelude.{Option, Some, option_map, slice_get, Result, OnOk, slice_set, false}
use Rattle.std.proofs.lemmas.Option.{slice_get-map, slice_get-get_or}
use Rattle.std.proofs.lemmas.Result.{on_ok_weaker}
use Rattle.std.specs.FinSet as set
use Rattle.basics.specs.Laws.Pairs.{Pairs}
use Rattle.user_relations.specs.declared.kinds.Kind.{Kind}
use Rattle.user_relations.specs.declared.kinds.Relation.{Relation}
use Rattle.user_relations.specs.declared.RelationFault.{RelationFault}
use Rattle.user_relations.specs.Laws.Relations.{RelationShape, RelationKind, listed, kind_of, has_list, listed_pairs, pairs_of}
use Rattle.user_relations.specs.Laws.Relations.{with_kind, change_kind}
use Rattle.user_relations.specs.Kinds.{AnswersFault}
use Rattle.user_relations.specs.Places.{IsPlace}
use Rattle.user_relations.specs.View.{kind_view, relation_view, shapes}

pub kind_declared : (rs : List RelationShape) (rho i : ℕ) → rho ≡ i + 2 → kind_of rs rho ≡ option_map (λ r. r.kind) (slice_get rs i)
kind_declared rs rho i e = let two : i + 2 ≡ suc (suc i) = omega arith in ap (kind_of rs) (e ∙ two)

pub with_declared : (rs : List RelationShape) (rho i : ℕ) (k : RelationKind) → rho ≡ i + 2 → with_kind rs rho k ≡ change_kind rs i k
with_declared rs rho i k e = let two : i + 2 ≡ suc (suc i) = omega arith in ap (λ n. with_kind rs n k) (e ∙ two)

pub length-shapes : (ds : List Relation) → length (shapes ds) ≡ length ds
length-shapes [] = refl
length-shapes (d ∷ ds) = ap suc (length-shapes ds)

-- what stands at a place
pub kind_read : (ds : List Relation) (rho i : ℕ) (d : Relation) → IsPlace (length ds) rho i → kind_of (shapes ds) rho ≡ Some (kind_view (get_or ds i d).kind)
kind_read ds rho i d p = grind (arith, kind_declared, slice_get-map, slice_get-get_or)

shapes-set : (ds : List Relation) (i : ℕ) (d : Relation) (k : Kind) →
    shapes (slice_set ds i (record { name = (get_or ds i d).name; kind = k })) ≡ change_kind (shapes ds) i (kind_view k)
shapes-set [] i d k = refl
shapes-set (x ∷ ds) zero d k = refl
shapes-set (x ∷ ds) (suc i) d k = ap (λ rs. relation_view x ∷ rs) (shapes-set ds i d k)

-- a new kind at a place
pub kind_written : (ds : List Relation) (rho i : ℕ) (d : Relation) (k : Kind) → IsPlace (length ds) rho i
    → shapes (slice_set ds i (record { name = (get_or ds i d).name; kind = k })) ≡ with_kind (shapes ds) rho (kind_view k)
kind_written ds rho i d k p = shapes-set ds i d k ∙ sym (with_declared (shapes ds) rho i (kind_view k) p.is)

-- what a call on one kind says of the whole list
pub pairs_written : (ds : List Relation) (rho i : ℕ) (d : Relation) (k : Kind) (f : Pairs → Pairs) (r : Result (Unit {0}) RelationFault) →
    IsPlace (length ds) rho i
    → OnOk r (kind_view k ≡ listed (f (listed_pairs (Some (kind_view (get_or ds i d).kind)))))
    → OnOk r (shapes (slice_set ds i (record { name = (get_or ds i d).name; kind = k })) ≡ with_kind (shapes ds) rho (listed (f (pairs_of (shapes ds) rho))))
pairs_written ds rho i d k f r p told = grind (arith, on_ok_weaker, kind_written, kind_read)

pub fault_read : (ds : List Relation) (rho i : ℕ) (d : Relation) (f : Option RelationKind → Option RelationFault) (r : Result (Unit {0}) RelationFault) →
    IsPlace (length ds) rho i
    → AnswersFault (f (Some (kind_view (get_or ds i d).kind))) r → AnswersFault (f (kind_of (shapes ds) rho)) r
fault_read ds rho i d f r p told = subst (λ o. AnswersFault (f o) r) (sym (kind_read ds rho i d p)) told

-- what has no list has no listed pairs
pub unlisted : (kind : Option RelationKind) → has_list kind ≡ false → listed_pairs kind ≡ set.empty
unlisted kind none = grind arith
