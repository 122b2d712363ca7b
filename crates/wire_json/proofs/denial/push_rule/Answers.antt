use Rattle.json.specs.Print.{escape_byte}
use Rattle.wire_json.proofs.Texts.{added_2}
use Rattle.wire_json.proofs.denial.push_rule.Goals as goal

pub returns : goal.returns
unfolding escape_byte
returns c = added_2 _ _ _ _ _ c.in_ok-push_number.ensures c.in_ok-push.ensures
