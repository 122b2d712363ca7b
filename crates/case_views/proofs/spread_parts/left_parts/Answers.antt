use Rattle.std.proofs.Common.{ap, ◌∙◌}
use Rattle.case_views.specs.Listing.{IsLeftAt}
use Rattle.case_views.proofs.Spreading.{collected}
use Rattle.case_views.proofs.spread_parts.left_parts.Goals as goal

pub returns : goal.returns
returns g c =
    let slice = ap (λ it. it.slice.now) c.with_min_len.ensures.base ∙ c.par_iter.ensures in
    let made = c.in_ok-parts.ensures in
    let chain = rw (c.map.ensures.base, c.map.ensures.f) at made.1 in
    collected (λ v. v.items) (IsLeftAt c.args.revision.now.after.now) chain.0 c.args.rows.now made.0 c.in_ok-parts.parts (chain.1 ∙ slice) chain.2 made.2
