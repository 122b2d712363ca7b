-- Inside: trees as data that can stand in values.
use base.Stored.{Coded, Gv, gnil, gnum, gcons}
use Rattle.std.proofs.Common.{◌≡◌, refl, sym, ap, ◌∙◌, zero, suc}
use Rattle.refutation_tree.specs.Tree.{Shape, Kids, holder, rule, node, no_kids, tree_kid}
use Rattle.refutation_tree.specs.Tree.{twin_kid}

abbrev mutual
  pub code_tree : Shape → Gv
  code_tree (holder s) = gcons (gnum 0) (gnum s)
  code_tree (rule k) = gcons (gnum 1) (gnum k)
  code_tree (node s kids) = gcons (gnum s) (gcons gnil (code_kids kids))

  pub code_kids : Kids → Gv
  code_kids no_kids = gnil
  code_kids (tree_kid u t rest) = gcons (gnum u) (gcons (code_tree t) (code_kids rest))
  code_kids (twin_kid u v rest) = gcons (gcons (gnum u) (gnum v)) (code_kids rest)

abbrev mutual
  pub tree_back : Gv → Shape
  tree_back gnil = holder 0
  tree_back (gnum n) = holder 0
  tree_back (gcons gnil rest) = holder 0
  tree_back (gcons (gcons x y) rest) = holder 0
  tree_back (gcons (gnum s) gnil) = holder 0
  tree_back (gcons (gnum s) (gcons x kids)) = node s (kids_back kids)
  tree_back (gcons (gnum zero) (gnum s)) = holder s
  tree_back (gcons (gnum (suc n)) (gnum k)) = rule k

  pub kids_back : Gv → Kids
  kids_back gnil = no_kids
  kids_back (gnum n) = no_kids
  kids_back (gcons gnil rest) = no_kids
  kids_back (gcons (gcons gnil y) rest) = no_kids
  kids_back (gcons (gcons (gcons w x) y) rest) = no_kids
  kids_back (gcons (gcons (gnum u) gnil) rest) = no_kids
  kids_back (gcons (gcons (gnum u) (gcons x y)) rest) = no_kids
  kids_back (gcons (gcons (gnum u) (gnum v)) rest) = twin_kid u v (kids_back rest)
  kids_back (gcons (gnum u) gnil) = no_kids
  kids_back (gcons (gnum u) (gnum n)) = no_kids
  kids_back (gcons (gnum u) (gcons t rest)) = tree_kid u (tree_back t) (kids_back rest)

mutual
  pub tree_same : (t : Shape) → tree_back (code_tree t) ≡ t
  tree_same (holder s) = refl
  tree_same (rule k) = refl
  tree_same (node s kids) = ap (node s) (kids_same kids)

  pub kids_same : (k : Kids) → kids_back (code_kids k) ≡ k
  kids_same no_kids = refl
  kids_same (twin_kid u v rest) = ap (twin_kid u v) (kids_same rest)
  kids_same (tree_kid u t rest) = ap (λ x. tree_kid u x (kids_back (code_kids rest)))
      (tree_same t) ∙ ap (tree_kid u t) (kids_same rest)

pub kids_inj : (x y : Kids) → code_kids x ≡ code_kids y → x ≡ y
kids_inj x y p = sym (kids_same x) ∙ ap kids_back p ∙ kids_same y

abbrev pub kids_code : Coded Kids
kids_code = record { code = code_kids; inj = kids_inj }
