use Rattle.std.proofs.Common.{sym, ap, subst, ◌∙◌}
use Rattle.std.specs.List.{flat_map}
use Rattle.case_views.specs.Listing.{IsWorkIn}
use Rattle.case_views.proofs.Spreading.{work_joined}
use Rattle.case_views.proofs.spread.SpreadDeciderLister.work.Goals as goal

pub returns : goal.returns
returns g c =
    let p = c.args.p.now in
    let rows = c.args.rows.now in
    subst (IsWorkIn p c.args.u rows) (sym (c.in_ok-joined_work.ensures ∙ ap (flat_map (λ part. part)) c.deref.ensures.value))
    (work_joined p c.args.u rows c.in_ok-parts.parts.items c.in_ok-parts.ensures)
