use Rattle.std.specs.Prelude.{codes, decimal}
use Rattle.json.specs.Print.{escape_byte}
use Rattle.wire_json.proofs.Texts.{number_added_in_two}
use Rattle.wire_json.proofs.reply.push_opened.Goals as goal

pub returns : goal.returns
unfolding escape_byte
returns c =
    number_added_in_two c.args.out.now.items _ _ _ _ (codes "{\"opened\":{\"case\":") (decimal c.args.case) _ _ c.in_ok-push_case.ensures
    c.in_ok-push.ensures c.in_ok-push_users.ensures
    c.in_ok-push-2.ensures
