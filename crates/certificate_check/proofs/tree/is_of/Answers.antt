use Rattle.std.proofs.Common.{◌≡◌, ◌+◌, nat_eq, ℕ, drop, sym, ap, ◌∙◌, arith}
use Rattle.refutation_tree.specs.Tree.{Kids}
use Rattle.refutation_tree.specs.Laws.Views.{kids_of_items, kid_onto}
use Rattle.refutation_tree.specs.declared.tree.Kid.{Kid}
use Rattle.refutation_tree.proofs.ShapeLaws.{kids_of_items-drop}
use Rattle.certificate_check.specs.Walks.{begins_with}
use Rattle.certificate_check.proofs.tree.is_of.Goals as goal

begins : (u v : ℕ) (kid : Kid) (rest : Kids) → nat_eq u v ≡ begins_with u (kid_onto kid v rest)
begins u v kid rest = grind arith

pub returns-in-Some-clause-user : goal.returns-in-Some-clause-user
returns-in-Some-clause-user c =
    let found = c.in-Some.ensures.lookup in
    let b = c.in-Some.branch.now in
    let bs = c.args.branches.now in
    c.eq.ensures ∙ begins c.args.u b.user b.kid (kids_of_items (drop (c.args.place + 1) bs)) ∙
    ap (begins_with c.args.u) (sym (kids_of_items-drop bs c.args.place b found.3.0 found.1))
