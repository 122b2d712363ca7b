-- What a page is made of.
use Rattle.std.specs.Prelude.{ℕ, List, decimal, flat_map}
use Rattle.case_story.specs.Escape.{escaped}
use Rattle.case_story.specs.declared.html.Part.{Part}
use Rattle.case_story.specs.declared.html.Part.TheVariants.{Mark, Value, Number}

-- a part as it is written
abbrev pub part_text : Part → List ℕ
part_text (Mark marks) = marks.now
part_text (Value value) = escaped value.now
part_text (Number n) = decimal n

-- some parts as they are written, one behind the other
abbrev pub parts_text : List Part → List ℕ
parts_text parts = flat_map part_text parts
