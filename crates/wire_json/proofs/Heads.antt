-- An entry that is made in pieces.
use Rattle.std.proofs.Common.{◌≡◌, ℕ, ◌-◌, List, [], ◌∷◌, ◌++◌, length, take, drop, ap, ◌∙◌, arith, append_assoc, append-nil, length-drop, take_all}

regrouped : (b4 d4 b3 d3 b2 d2 b1 a : List ℕ) →
    (b4 ++ (d4 ++ (b3 ++ (d3 ++ (b2 ++ (d2 ++ b1)))))) ++ a ≡ b4 ++ (d4 ++ (b3 ++ (d3 ++ (b2 ++ (d2 ++ (b1 ++ a))))))
regrouped b4 d4 b3 d3 b2 d2 b1 a = simp append_assoc

-- what stands before the reply, and bytes behind it, from their end to their start
pub head_made : (a t0 t1 t2 t3 t4 b1 b2 b3 b4 d2 d3 d4 : List ℕ) → t0 ≡ a ++ [] → t1 ≡ b1 ++ t0 → t2 ≡ b2 ++ (d2 ++ t1) → t3 ≡ b3 ++ (d3 ++ t2)
    → t4 ≡ b4 ++ (d4 ++ t3) → t4 ≡ (b4 ++ (d4 ++ (b3 ++ (d3 ++ (b2 ++ (d2 ++ b1)))))) ++ a
head_made a t0 t1 t2 t3 t4 b1 b2 b3 b4 d2 d3 d4 e0 e1 e2 e3 e4 = grind (arith, append-nil, regrouped)

-- all from a place on
pub whole_rest : (n at : ℕ) (cells : List ℕ) → length cells ≡ n → take (n - at) (drop at cells) ≡ drop at cells
whole_rest n at cells h = take_all (n - at) (drop at cells) (omega (arith, length-drop at cells, h))

-- how a line ends that gives a plan, from its end to its start
pub ending_made : (t0 t1 t2 t3 b d k : List ℕ) → t0 ≡ [] → t1 ≡ b ++ t0 → t2 ≡ d ++ t1 → t3 ≡ k ++ t2 → t3 ≡ k ++ (d ++ b)
ending_made t0 t1 t2 t3 b d k e0 e1 e2 e3 = e3 ∙ ap (λ t. k ++ t) (e2 ∙ ap (λ t. d ++ t) (e1 ∙ ap (λ t. b ++ t) e0 ∙ append-nil b))

-- a branch whose tree is a leaf, from its end to its start
pub leaf_made : (t0 t1 t2 t3 k d u c : List ℕ) → t0 ≡ [] → t1 ≡ 125 ∷ 93 ∷ t0 → t2 ≡ 44 ∷ (k ++ (d ++ t1)) → t3 ≡ c ++ 91 ∷ (u ++ t2)
    → t3 ≡ c ++ 91 ∷ (u ++ 44 ∷ ((k ++ (d ++ 125 ∷ [])) ++ 93 ∷ []))
leaf_made t0 t1 t2 t3 k d u c e0 e1 e2 e3 = grind (arith, append_assoc)

-- a step of a work list, from its end to its start
pub item_made : (t0 t1 t2 t3 n d : List ℕ) → t0 ≡ 93 ∷ [] → t1 ≡ d ++ t0 → t2 ≡ 44 ∷ t1 → t3 ≡ 91 ∷ (n ++ t2) → t3 ≡ 91 ∷ (n ++ 44 ∷ (d ++ 93 ∷ []))
item_made t0 t1 t2 t3 n d e0 e1 e2 e3 = e3 ∙ ap (λ t. 91 ∷ (n ++ t)) (e2 ∙ ap (λ t. 44 ∷ t) (e1 ∙ ap (λ t. d ++ t) e0))
