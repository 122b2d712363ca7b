use Rattle.std.proofs.Common.{◌≡◌, take}
use Rattle.std.specs.List.{flat_map}
use Rattle.case_views.proofs.spread.joined_work.Given as goal

-- all of the lists so far
abbrev pub invariant-parts : goal.invariant-parts
invariant-parts l = l.items ≡ flat_map (λ part. part) (take l.i l.parts)
