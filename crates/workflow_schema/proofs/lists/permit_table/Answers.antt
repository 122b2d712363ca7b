use Rattle.std.proofs.Common.{◌-◌, ◌||◌, nat_eq, sym, ◌∙◌, arith, rules}
use Rattle.basics.proofs.Booleans.{and_swap}
use Rattle.workflow_schema.proofs.PairLists.{flags_start, twice_start, found_twice, not_twice, with_pair}
use Rattle.workflow_schema.proofs.lists.permit_table.Goals as goal

pub pairs-init : goal.pairs-init
pairs-init c = search (rules, arith, twice_start, flags_start)

pub returns-then-has_flag : goal.returns-then-has_flag
returns-then-has_flag c =
    found_twice c.args.permits.now c.pairs.i (c.pairs.i - 1) c.r.inside.0 c.s.inside.0 _ _ (omega (arith, c.pairs-test.true))
    (omega (arith, c.pairs-test.true, c.pairs.auto.i)) c.r.view_is c.s.view_is
    (sym (c.pairs.invariant.same c.s.inside.0 c.r.inside.0) ∙ sym c.if-has_flag.ensures)

pub pairs-preserved : goal.pairs-preserved
pairs-preserved c = record {
  whole = omega (arith, c.pairs.invariant.whole, c.set_flag.auto.rows);
  single =
      not_twice c.args.permits.now c.pairs.i (c.pairs.i - 1) c.r.inside.0 c.s.inside.0 _ _ (omega (arith, c.pairs-test.true))
      (omega (arith, c.pairs-test.true, c.pairs.auto.i)) c.r.view_is c.s.view_is
      (sym (c.pairs.invariant.same c.s.inside.0 c.r.inside.0) ∙ sym c.if-has_flag.ensures)
      c.pairs.invariant.single;
  same = λ a b.
      c.set_flag.ensures a b
      ∙ (λ k. and_swap (nat_eq a c.s.inside.0) (nat_eq b c.r.inside.0) k || c.pairs.invariant.same a b k)
      ∙ sym (with_pair c.args.permits.now c.pairs.i (c.pairs.i - 1) c.r.inside.0 c.s.inside.0 _ _ (omega (arith, c.pairs-test.true))
      (omega (arith, c.pairs-test.true, c.pairs.auto.i)) c.r.view_is c.s.view_is b a);
}
