use Rattle.std.proofs.Common.{Bor, Option, MatchOption, IfSome, is_some, ltb, get_or, arith, ◌≡◌, ◌≤◌, ◌+◌, MatchOption, ℕ, length, List, sym}
use Rattle.std.proofs.Common.{ap, ◌∙◌}
use Rattle.refutation_tree.specs.Tree.{Kids, kid_count, kids_from}
use Rattle.refutation_tree.specs.Laws.Views.{branch_onto, kids_of_items}
use Rattle.refutation_tree.proofs.ShapeLaws.{kid_count-items, kids_from-items, kids_of_items-drop}
use Rattle.std.proofs.lemmas.Bool.Decides.{nat_tests}
use Rattle.refutation_tree.specs.declared.tree.Branch.{Branch}
use Rattle.refutation_tree.proofs.tree.Branches.get.Goals as goal

found : (kids : Kids) (bs : List Branch) → kids ≡ kids_of_items bs → (i : ℕ) (r : Option (Bor Branch)) → is_some r ≡ ltb i (length bs) →
    IfSome r (λ x. x.now ≡ get_or bs i x.now) → MatchOption r (kid_count kids ≤ i) (λ b. kids_from i kids ≡ branch_onto b.now (kids_from (i + 1) kids))
found kids bs are i r past here = grind (arith, nat_tests, kid_count-items, kids_from-items, kids_of_items-drop)

pub returns : goal.returns
returns c =
    found c.args.self.now c.deref.result.now (sym c.self.view_is ∙ ap kids_of_items (sym c.deref.ensures.value)) c.args.i c.get.result
    c.get.ensures.lookup.0 c.get.ensures.lookup.1
