use Rattle.std.proofs.Common.{◌≡◌, take}
use Rattle.std.specs.List.{flat_map}
use Rattle.case_views.specs.Listing.{list_of}
use Rattle.case_views.proofs.spread.joined_cases.Given as goal

-- all of the numbers so far
abbrev pub invariant-parts : goal.invariant-parts
invariant-parts l = l.numbers ≡ flat_map list_of (take l.i l.parts)
