use Rattle.std.proofs.Common.{◌≡◌, ◌++◌, take, flat_map}
use Rattle.case_story.specs.Html.{part_text}
use Rattle.case_story.proofs.html.Html.put.Given as goal

abbrev pub invariant-parts : goal.invariant-parts
invariant-parts l = l.self ≡ l.fn.self ++ flat_map part_text (take l.part-index l.parts)
