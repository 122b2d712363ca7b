-- Inside: what stands in branches is smaller than the branches.
use denote.Param.Weighed.{most}
use Rattle.std.proofs.Common.{ℕ, ◌≤◌, max, List, [], ◌∷◌, arith}
use Rattle.refutation_tree.specs.Tree.{Kids, size_of_kids}
use Rattle.refutation_tree.specs.Laws.Views.{kid_onto, kids_of_items}
use Rattle.refutation_tree.specs.declared.tree.Tree.TheVariants.{Holder, Rule, Step}
use Rattle.refutation_tree.specs.declared.tree.Branch.{Branch}
use Rattle.refutation_tree.specs.declared.tree.Kid.{Kid}
use Rattle.refutation_tree.specs.declared.tree.Kid.TheVariants.{Tree as Tree_kid, Twin}
use Rattle.refutation_tree.specs.declared.tree.Branches.TheDeep.{deep-Branch}

kid_falls : (u : ℕ) (kid : Kid) (rest : Kids) (n : ℕ) → n ≤ size_of_kids rest →
    max (deep-Branch record { user = u; kid = kid }) n ≤ size_of_kids (kid_onto kid u rest)
kid_falls u (Tree_kid (Holder s)) rest n h = omega (arith, h)
kid_falls u (Tree_kid (Rule k)) rest n h = omega (arith, h)
kid_falls u (Tree_kid (Step s kids)) rest n h = omega (arith, h)
kid_falls u (Twin v) rest n h = omega (arith, h)

pub falls : (bs : List Branch) →
    max (most (λ b. deep-Branch b) bs) 0 ≤ size_of_kids (kids_of_items bs)
falls [] = omega arith
falls (b ∷ bs) =
    let below : most (λ x. deep-Branch x) bs ≤ size_of_kids (kids_of_items bs) =
    omega (arith, falls bs) in
    omega (arith, kid_falls b.user b.kid (kids_of_items bs) (most (λ x. deep-Branch x) bs) below)
