-- Lists of those of some values that have a property, part by part.
use Rattle.std.proofs.Common.{◌≡◌, ℕ, zero, suc, ◌+◌, inl, inr, List, [], ◌∷◌, ◌++◌, refl, sym, subst, arith}
use Rattle.std.proofs.lemmas.List.{append_assoc}
use Rattle.wf_board.specs.Laws.States.{Numbered}
use Rattle.wf_board.specs.Views.{AreThose, Place, steps_from, steps_of}

-- the list of two parts is made of theirs
pub those_append : {A B : Type 0} (In Out : A → Type 0) (name : A → B) (xs ys : List A) (ns ms : List B) →
    AreThose In Out name xs ns → AreThose In Out name ys ms → AreThose In Out name (xs ++ ys) (ns ++ ms)
those_append In Out name [] ys ns ms first second = subst (λ l. AreThose In Out name ys (l ++ ms)) (sym first) second
those_append In Out name (x ∷ xs) ys ns ms (inl is) second = grind (arith, (those_append In Out name xs ys is.1.0 ms is.1.1.1 second))
those_append In Out name (x ∷ xs) ys ns ms (inr is) second = inr (is.0, those_append In Out name xs ys ns ms is.1 second)

-- the steps of two lists of cases
pub steps_append : (es fs : List Numbered) → steps_of (es ++ fs) ≡ steps_of es ++ steps_of fs
steps_append [] fs = refl
steps_append (e ∷ es) fs = grind (arith, append_assoc, (steps_append es fs))

-- a step of a case
abbrev pub place : Numbered → ℕ → Place
place e t = record { of = e; step = t }

-- one step more
steps_next : (e : Numbered) (n t : ℕ) → steps_from e (n + 1) t ≡ steps_from e n t ++ place e (t + n) ∷ []
steps_next e zero t = grind arith
steps_next e (suc n) t = grind (arith, (steps_next e n (t + 1)))

pub steps_more : (e : Numbered) (n : ℕ) → steps_from e (n + 1) 0 ≡ steps_from e n 0 ++ place e n ∷ []
steps_more e n = grind (arith, steps_next)
