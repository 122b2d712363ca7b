use Rattle.std.proofs.Common.{◌-◌, get_or, refl, sym, ap, ◌∙◌, arith}
use Rattle.std.specs.FinSet as set
use Rattle.basics.proofs.Booleans.{not_false}
use Rattle.workflow_schema.proofs.PairLists.{found_twice}
use Rattle.workflow_schema.proofs.lists.order_table.Goals as goal

pub returns-then-not-insert : goal.returns-then-not-insert
returns-then-not-insert c =
    let s = (get_or c.args.order.now (c.pairs.i - 1) c.index-order-i.result).0 in
    let t = (get_or c.args.order.now (c.pairs.i - 1) c.index-order-i-in-pairs.result).1 in
    found_twice c.args.order.now c.pairs.i (c.pairs.i - 1) s t c.index-order-i.result c.index-order-i-in-pairs.result (omega (arith, c.pairs-test.true))
    (omega (arith, c.pairs-test.true, c.pairs.auto.i)) refl refl
    (ap (λ pairs. set.contains pairs (s, t)) (sym c.pairs.invariant.same) ∙ not_false (set.contains c.pairs.pairs (s, t))
    (sym c.insert.ensures.fresh ∙ c.if-not-insert.true))
