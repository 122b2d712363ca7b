use Rattle.std.proofs.Common.{◌+◌, [], ◌∷◌, ◌++◌, sym, ap, subst, ◌∙◌, arith}
use Rattle.user_relations.specs.Rows.{AreListedTo}
use Rattle.user_relations.proofs.Listing.{found_within, listed_found, listed_end}
use Rattle.user_relations.proofs.blocks.add_row.Goals as goal

pub users-preserved : goal.users-preserved
users-preserved c =
    let blocks = c.args.blocks.now in
    let row = c.args.row.now in
    let inside = found_within blocks row c.args.u c.users.from c.users.pairs.items c.users.invariant.1 c.requires.row c.in-Some.v c.in-Some.ensures in
    let listed = listed_found blocks row c.args.u c.users.from c.users.pairs.items c.users.invariant.1 c.requires.row c.in-Some.v c.in-Some.ensures in
    let here = subst (AreListedTo blocks c.args.u (c.in-Some.v + 1))
    (sym (c.in_ok-push.ensures.items ∙ ap (λ n. c.users.pairs.items ++ (c.args.u, n) ∷ []) c.v.view_is)) listed in
    (omega (arith, inside, c.v.view_is), subst (λ n. AreListedTo blocks c.args.u (n + 1) c.push.new.self.items) (sym c.v.view_is) here)

pub returns : goal.returns
returns c = listed_end c.args.blocks.now c.args.row.now c.args.u c.users.from c.users.pairs.items c.users.invariant.1 c.requires.row c.users.invariant.0
    c.in_default.ensures
