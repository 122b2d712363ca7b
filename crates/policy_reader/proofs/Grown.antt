-- Policies with more workflows.
use Rattle.std.proofs.Common.{◌≡◌, ℕ, ◌<◌, false, List, [], ◌∷◌, ◌++◌, length, refl, arith}
use Rattle.policy_reader.proofs.Words.{AllByRecursion, IsGrown, Ascend, IsFreshPolicy, IsPrintable}
use Rattle.policy_book.specs.Laws.Shapes.{PolicyShape, WorkflowShape}

pub push_all : {X : Type 0} (P : X → Type 0) (xs : List X) (y : X) → AllByRecursion P xs → P y → AllByRecursion P (xs ++ y ∷ [])
push_all P [] y h here = (here, tt)
push_all P (x ∷ xs) y h here = (h.0, push_all P xs y h.1 here)

pub grown_push : (p : PolicyShape) (names : List (List ℕ)) (w : WorkflowShape) → w.retired ≡ false →
    IsGrown p (record p { flow_names = names; flows = p.flows ++ w ∷ [] })
grown_push p names w here = record { roster = refl; relations = refl; admin = refl; active = λ h. push_all (λ x. x.retired ≡ false) p.flows w h here }

pub grown_none : (p : PolicyShape) → IsGrown p p
grown_none p = record { roster = refl; relations = refl; admin = refl; active = λ h. h }

pub grown_more : (p q r : PolicyShape) → IsGrown p q → IsGrown q r → IsGrown p r
grown_more p q r a b = grind arith

pub printable : (p q : PolicyShape) → IsFreshPolicy p → p.flows ≡ [] → IsGrown p q → Ascend q.flow_names → 0 < length q.flow_names → IsPrintable q
printable p q begun none grown ascend some = grind arith
