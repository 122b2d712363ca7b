use Rattle.json.specs.Print.{escape_byte}
use Rattle.wire_json.proofs.Texts.{added_3}
use Rattle.wire_json.proofs.finding.push_tree_found.Goals as goal

pub returns : goal.returns
unfolding escape_byte
returns c = added_3 _ _ _ _ _ _ _ c.in_ok-push.ensures c.in_ok-push_flow.ensures c.in_ok-push_tree_in.ensures
