use Rattle.case_story.proofs.Marks.{none_escaped}
use Rattle.std.specs.Prelude.{chars}
use Rattle.case_story.proofs.laws.values_have_no_marks.Goals as goal

pub returns : goal.returns
returns c text = none_escaped (chars text)
