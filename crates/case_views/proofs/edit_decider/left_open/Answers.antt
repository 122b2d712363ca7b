use Rattle.std.proofs.Common.{arith, sym, subst, take_all}
use Rattle.wf_board.specs.Edition.{ArePlansOf, IsFirstStranded}
use Rattle.case_views.specs.Deciding.{AddsPlanOfRow}
use Rattle.case_views.specs.Listing.{open_in}
use Rattle.case_views.proofs.Editing.{plans_more, stranded_here}
use Rattle.case_views.proofs.Listing.{kept_row}
use Rattle.case_views.proofs.edit_decider.left_open.Goals as goal

pub add_plan-requires : goal.add_plan-requires
add_plan-requires c = kept_row c.args.revision.now.before.now c.args.rows.now c.rows.i c.index-rows-i.result c.rows-test.true c.index-rows-i.is c.requires

pub returns-in-Some : goal.returns-in-Some
returns-in-Some c =
    let q = c.args.revision.now.after.now in
    let row = c.index-rows-i.result in
    let added = subst (AddsPlanOfRow q row c.rows.plans.items c.add_plan.new.plans.items) c.in-Some.is c.in_ok-tree.ensures in
    let first = stranded_here q c.args.rows.now c.rows.i row c.rows.plans.items c.in-Some.tree c.rows-test.true c.index-rows-i.is c.rows.invariant added.0
    added.1 in
    (row.case.flow, subst (λ n. IsFirstStranded q (open_in c.args.rows.now) n row.case.flow c.in-Some.tree) (sym c.number.ensures) first)

pub rows-preserved : goal.rows-preserved
rows-preserved c =
    let q = c.args.revision.now.after.now in
    let row = c.index-rows-i.result in
    let added = subst (AddsPlanOfRow q row c.rows.plans.items c.add_plan.new.plans.items) c.in_default.is c.in_ok-tree.ensures in
    plans_more q c.args.rows.now c.rows.i row c.rows.plans.items added.0 c.add_plan.new.plans.items c.rows-test.true c.index-rows-i.is c.rows.invariant
    added.1.1 added.1.0

pub returns : goal.returns
returns c =
    subst (ArePlansOf c.args.revision.now.after.now (open_in c.args.rows.now)) (sym c.from_vec.ensures)
    (subst (λ rows. ArePlansOf c.args.revision.now.after.now (open_in rows) c.rows.plans.items)
    (take_all c.rows.i c.args.rows.now (omega (arith, c.rows-test.false))) c.rows.invariant)
