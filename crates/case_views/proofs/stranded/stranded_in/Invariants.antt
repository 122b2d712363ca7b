use Rattle.std.proofs.Common.{take}
use Rattle.case_views.specs.Listing.{AreStrandedIn}
use Rattle.case_views.specs.Seeing.{TellsRight}
use Rattle.case_views.proofs.stranded.stranded_in.Given as goal

-- the stranded cases so far are listed
abbrev pub invariant-rows : goal.invariant-rows
invariant-rows l = record {
  stranded : AreStrandedIn l.revision.after.now (take l.i l.rows) l.numbers;
  right : TellsRight l.revision.after.now l.seen;
}
