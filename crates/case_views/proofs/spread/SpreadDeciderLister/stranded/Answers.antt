use Rattle.std.proofs.Common.{sym, ap, subst, ◌∙◌}
use Rattle.std.specs.List.{flat_map}
use Rattle.case_views.specs.Listing.{AreStrandedIn, list_of}
use Rattle.case_views.proofs.Spreading.{stranded_joined}
use Rattle.case_views.proofs.spread.SpreadDeciderLister.stranded.Goals as goal

pub returns : goal.returns
returns g c =
    let q = c.args.revision.now.after.now in
    let rows = c.args.rows.now in
    subst (AreStrandedIn q rows) (sym (c.in_ok-joined_cases.ensures ∙ ap (flat_map list_of) c.deref.ensures.value))
    (stranded_joined q rows c.in_ok-parts.parts.items c.in_ok-parts.ensures)
