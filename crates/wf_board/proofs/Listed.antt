-- Lists of those of some values that have a property.
use Rattle.std.proofs.Common.{◌≡◌, List, [], ◌∷◌, inl, inr, sym, ◌∙◌, arith}
use Rattle.wf_board.specs.Views.{AreThose}

-- where no value has both properties, one list alone is that of those that have the one
pub one_list : {A B : Type 0} (In Out : A → Type 0) (name : A → B) (xs : List A) (ys zs : List B) → ((x : A) → In x → ¬ Out x) →
    AreThose In Out name xs ys → AreThose In Out name xs zs → ys ≡ zs
one_list In Out name [] ys zs apart a b = a ∙ sym b
one_list In Out name (x ∷ xs) ys zs apart (inl a) (inl b) = grind (arith, (one_list In Out name xs a.1.0 b.1.0 apart a.1.1.1 b.1.1.1))
one_list In Out name (x ∷ xs) ys zs apart (inl a) (inr b) = absurd (apart x a.0 b.0)
one_list In Out name (x ∷ xs) ys zs apart (inr a) (inl b) = absurd (apart x b.0 a.0)
one_list In Out name (x ∷ xs) ys zs apart (inr a) (inr b) = one_list In Out name xs ys zs apart a.1 b.1
