use Rattle.std.proofs.Common.{◌∙◌, ◌++◌, ap, arith, subst, take_all}
use Rattle.case_views.specs.Listing.{IsWorkIn}
use Rattle.case_views.proofs.Listing.{kept_row, work_more}
use Rattle.case_views.proofs.work_lists.work_in.Goals as goal

pub work_at-requires-clause-row : goal.work_at-requires-clause-row
work_at-requires-clause-row c = kept_row c.args.p.now c.args.rows.now c.rows.i c.index-rows-i.result c.rows-test.true c.index-rows-i.is c.requires.kept

pub rows-preserved : goal.rows-preserved
rows-preserved c = record {
  work = work_more c.args.p.now c.args.u c.args.rows.now c.rows.i c.index-rows-i.result c.rows.items c.in_ok-more.more c.push_all.new.self
      c.rows-test.true c.index-rows-i.is c.rows.invariant.work c.in_ok-more.ensures.work
      (c.in_ok-push_all.ensures.pushed ∙ ap (λ l. c.rows.items ++ l) c.as_slice.ensures);
  right = c.in_ok-more.ensures.right;
}

pub returns : goal.returns
returns c =
    subst (λ rows. IsWorkIn c.args.p.now c.args.u rows c.rows.items)
    (take_all c.rows.i c.args.rows.now (omega (arith, c.rows-test.false))) c.rows.invariant.work
