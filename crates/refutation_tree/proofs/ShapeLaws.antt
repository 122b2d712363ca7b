-- Branches as the list that they are kept in, and as pure data.
use Rattle.std.proofs.Common.{◌≡◌, refl, sym, ap, ◌∙◌, ℕ, zero, suc, ◌+◌, ◌<◌, List, [], ◌∷◌, ◌++◌, length, drop, get_or, arith}
use Rattle.std.proofs.lemmas.List.{drop_more}
use Rattle.refutation_tree.specs.Tree.{Kids, no_kids, tree_kid, twin_kid, joined, kid_count, kids_from, nodes_of_kids}
use Rattle.refutation_tree.specs.Laws.Views.{branch_onto, kid_onto, kids_of_items}
use Rattle.refutation_tree.specs.declared.tree.Branch.{Branch}
use Rattle.refutation_tree.specs.declared.tree.Kid.{Kid}

pub kid_onto-joined : (kid : Kid) (u : ℕ) (kids rest : Kids) → joined (kid_onto kid u kids) rest ≡ kid_onto kid u (joined kids rest)
kid_onto-joined kid u kids rest = grind arith

-- a branch at the end of a list
pub kids_of_items-push : (bs : List Branch) (b : Branch) → kids_of_items (bs ++ b ∷ []) ≡ joined (kids_of_items bs) (branch_onto b no_kids)
kids_of_items-push [] b = refl
kids_of_items-push (x ∷ bs) b = ap (branch_onto x) (kids_of_items-push bs b) ∙ sym (kid_onto-joined x.kid x.user (kids_of_items bs) (branch_onto b no_kids))

pub joined-assoc : (a b c : Kids) → joined (joined a b) c ≡ joined a (joined b c)
joined-assoc no_kids b c = refl
joined-assoc (tree_kid u t a) b c = ap (tree_kid u t) (joined-assoc a b c)
joined-assoc (twin_kid u v a) b c = ap (twin_kid u v) (joined-assoc a b c)

pub joined-none : (a : Kids) → joined a no_kids ≡ a
joined-none no_kids = refl
joined-none (tree_kid u t a) = ap (tree_kid u t) (joined-none a)
joined-none (twin_kid u v a) = ap (twin_kid u v) (joined-none a)

kid_onto-count : (kid : Kid) (u : ℕ) (rest : Kids) → kid_count (kid_onto kid u rest) ≡ kid_count rest + 1
kid_onto-count kid u rest = grind arith

-- as many branches as the list has
pub kid_count-items : (bs : List Branch) → kid_count (kids_of_items bs) ≡ length bs
kid_count-items [] = refl
kid_count-items (b ∷ bs) = omega (arith, kid_onto-count b.kid b.user (kids_of_items bs), kid_count-items bs)

kid_onto-from : (kid : Kid) (u i : ℕ) (rest : Kids) → kids_from (suc i) (kid_onto kid u rest) ≡ kids_from i rest
kid_onto-from kid u i rest = grind arith

-- the branches from a place on
pub kids_from-items : (i : ℕ) (bs : List Branch) → kids_from i (kids_of_items bs) ≡ kids_of_items (drop i bs)
kids_from-items zero bs = refl
kids_from-items (suc i) [] = refl
kids_from-items (suc i) (b ∷ bs) = kid_onto-from b.kid b.user i (kids_of_items bs) ∙ kids_from-items i bs

-- the list from a place on begins with the branch there
pub kids_of_items-drop : (bs : List Branch) (i : ℕ) (b : Branch) → i < length bs → b ≡ get_or bs i b →
    kids_of_items (drop i bs) ≡ branch_onto b (kids_of_items (drop (i + 1) bs))
kids_of_items-drop bs i b below is = ap kids_of_items (drop_more bs i b below) ∙ ap (λ x. branch_onto x (kids_of_items (drop (i + 1) bs))) (sym is)

kid_onto-nodes : (kid : Kid) (u : ℕ) (rest : Kids) → nodes_of_kids (kid_onto kid u rest) ≡ nodes_of_kids (kid_onto kid u no_kids) + nodes_of_kids rest
kid_onto-nodes kid u rest = grind arith

pub nodes-drop : (bs : List Branch) (i : ℕ) (b : Branch) → i < length bs → b ≡ get_or bs i b →
    nodes_of_kids (kids_of_items (drop i bs)) ≡ nodes_of_kids (branch_onto b no_kids) + nodes_of_kids (kids_of_items (drop (i + 1) bs))
nodes-drop bs i b below is = ap nodes_of_kids (kids_of_items-drop bs i b below is) ∙ kid_onto-nodes b.kid b.user (kids_of_items (drop (i + 1) bs))
