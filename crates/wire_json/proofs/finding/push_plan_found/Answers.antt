use Rattle.json.specs.Print.{escape_byte}
use Rattle.wire_json.proofs.Texts.{added_5}
use Rattle.wire_json.proofs.finding.push_plan_found.Goals as goal

pub returns : goal.returns
unfolding escape_byte
returns c =
    added_5 _ _ _ _ _ _ _ _ _ _ _ c.in_ok-push.ensures c.in_ok-push_flow.ensures c.in_ok-push-2.ensures c.in_ok-push_users.ensures c.in_ok-push-3.ensures
