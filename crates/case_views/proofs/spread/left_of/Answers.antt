use Rattle.std.proofs.Common.{sym, subst}
use Rattle.wf_board.specs.Edition.{IsFirstStranded}
use Rattle.case_views.specs.Deciding.{IsPartAdded}
use Rattle.case_views.specs.Listing.{open_in}
use Rattle.case_views.proofs.Spreading.{left_here, left_more}
use Rattle.case_views.proofs.spread.left_of.Goals as goal

pub returns-in-Some : goal.returns-in-Some
returns-in-Some c = λ p each.
    let rows = c.args.rows.now in
    let row = c.index-rows-i.result in
    let added = subst (IsPartAdded c.index-parts-i.result c.rows.plans.items c.add_part.new.plans.items) c.in-Some.is c.in_ok-tree.ensures in
    let first = left_here rows c.args.parts.now c.rows.i row c.index-parts-i.result c.rows.plans.items c.add_part.new.plans.items c.in-Some.tree
    c.rows-test.true c.index-rows-i.is c.index-parts-i.is c.rows.invariant added p each in
    (row.case.flow, subst (λ n. IsFirstStranded p (open_in rows) n row.case.flow c.in-Some.tree) (sym c.number.ensures) first)

pub rows-preserved : goal.rows-preserved
rows-preserved c =
    let added = subst (IsPartAdded c.index-parts-i.result c.rows.plans.items c.add_part.new.plans.items) c.in_default.is c.in_ok-tree.ensures in
    left_more c.args.rows.now c.args.parts.now c.rows.i c.index-rows-i.result c.index-parts-i.result c.rows.plans.items c.add_part.new.plans.items
    c.rows-test.true c.index-rows-i.is c.index-parts-i.is c.rows.invariant added
