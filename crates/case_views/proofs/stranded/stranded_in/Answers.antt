use Rattle.std.proofs.Common.{arith, subst, take_all}
use Rattle.case_views.specs.Listing.{AreStrandedIn, list_of}
use Rattle.case_views.proofs.Listing.{kept_row, stranded_more}
use Rattle.case_views.proofs.stranded.stranded_in.Goals as goal

pub stranded_at-requires-clause-row : goal.stranded_at-requires-clause-row
stranded_at-requires-clause-row c = kept_row c.args.revision.now.before.now c.args.rows.now c.rows.i c.index-rows-i.result c.rows-test.true c.index-rows-i.is
    c.requires

pub rows-preserved : goal.rows-preserved
rows-preserved c = record {
  stranded =
      stranded_more c.args.revision.now.after.now c.args.rows.now c.rows.i c.index-rows-i.result c.rows.numbers (list_of c.in_ok-number.number)
      c.add_number.new.numbers
      c.rows-test.true c.index-rows-i.is c.rows.invariant.stranded c.in_ok-number.ensures.number c.in_ok-add_number.ensures;
  right = c.in_ok-number.ensures.right;
}

pub returns : goal.returns
returns c =
    subst (λ rows. AreStrandedIn c.args.revision.now.after.now rows c.rows.numbers)
    (take_all c.rows.i c.args.rows.now (omega (arith, c.rows-test.false))) c.rows.invariant.stranded
