use Rattle.std.proofs.Common.{◌≡◌, ℕ, zero, suc, ◌+◌, ◌<◌, List, [], ◌∷◌, length, take, subst, refl, sym, ap, ◌∙◌, arith, take_all}
use Rattle.std.specs.Prelude.{slice_index}
use Rattle.wire_json.proofs.writer.are_same.Goals as goal

one_more : (xs ys : List ℕ) (n : ℕ) → n < length xs → n < length ys → take n xs ≡ take n ys → slice_index xs n ≡ slice_index ys n
    → take (suc n) xs ≡ take (suc n) ys
one_more [] ys n h k e i = absurd (omega (arith, h))
one_more (x ∷ xs) [] n h k e i = absurd (omega (arith, k))
one_more (x ∷ xs) (y ∷ ys) zero h k e i = ap (λ z. z ∷ []) i
one_more (x ∷ xs) (y ∷ ys) (suc n) h k e i =
    let heads : x ≡ y = cc in
    let rest : take (suc n) xs ≡ take (suc n) ys = one_more xs ys n (omega (arith, h)) (omega (arith, k)) (cc) i in
    (λ j. heads j ∷ rest j)

pub steps-preserved : goal.steps-preserved
steps-preserved c =
    let a : List ℕ = c.args.a.now in
    let b : List ℕ = c.args.b.now in
    let next : suc c.steps.s ≡ c.steps.s + 1 = omega arith in
    let here : slice_index a c.steps.s ≡ slice_index b c.steps.s = cc in
    subst (λ n. take n a ≡ take n b) next (one_more a b c.steps.s (omega arith) (omega arith) c.steps.invariant here)

pub returns : goal.returns
returns c =
    ((λ _. sym (take_all c.steps.s c.args.a.now (omega arith)) ∙ c.steps.invariant ∙ take_all c.steps.s c.args.b.now (omega arith)), (λ _. refl))
