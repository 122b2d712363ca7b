use Rattle.std.proofs.Common.{◌≡◌, ◌++◌, flat_map}
use Rattle.std.specs.Prelude.{string_bytes}
use Rattle.case_story.specs.Escape.{escape}
use Rattle.case_story.proofs.escape.push_escaped.Given as goal

abbrev pub invariant-chars : goal.invariant-chars
invariant-chars l = string_bytes l.out ≡ string_bytes l.fn.out ++ flat_map escape l.yielded
