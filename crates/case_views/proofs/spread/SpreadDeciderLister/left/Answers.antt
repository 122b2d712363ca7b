use Rattle.std.proofs.Common.{length, ap, ◌∙◌}
use Rattle.std.proofs.lemmas.Slice.Zip.{AllZip-long}
use Rattle.case_views.specs.Listing.{IsLeftAt}
use Rattle.case_views.proofs.spread.SpreadDeciderLister.left.Goals as goal

pub left_of-requires : goal.left_of-requires
left_of-requires g c =
    ap length c.deref.ensures.value ∙ AllZip-long (IsLeftAt c.args.revision.now.after.now) c.args.rows.now c.in_ok-parts.parts.items c.in_ok-parts.ensures
