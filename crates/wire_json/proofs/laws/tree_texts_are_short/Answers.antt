use Rattle.wire_json.proofs.Lengths.{tree_texts_are_short}
use Rattle.wire_json.proofs.laws.tree_texts_are_short.Goals as goal

pub returns : goal.returns
returns c = tree_texts_are_short
