use Rattle.json.specs.Print.{escape_byte}
use Rattle.wire_json.proofs.Texts.{added_in_two}
use Rattle.wire_json.proofs.reply.push_bad_key.Goals as goal

pub returns : goal.returns
unfolding escape_byte
returns c = added_in_two _ _ _ _ _ _ c.in_ok-push.ensures c.in_ok-push_quoted.ensures c.in_ok-push-2.ensures
