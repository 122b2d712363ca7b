use Rattle.std.proofs.Common.{take}
use Rattle.case_views.specs.Listing.{IsWorkIn}
use Rattle.case_views.specs.Granting.{TellsWork}
use Rattle.case_views.proofs.work_lists.work_in.Given as goal

-- the work in the cases so far is listed
abbrev pub invariant-rows : goal.invariant-rows
invariant-rows l = record {
  work : IsWorkIn l.p l.u (take l.i l.rows) l.items;
  right : TellsWork l.p l.u l.work;
}
