use Rattle.std.specs.Prelude.{codes, decimal}
use Rattle.json.specs.Print.{escape_byte}
use Rattle.wire_json.proofs.Texts.{one_number_added_in_two}
use Rattle.wire_json.proofs.reply.push_edited.Goals as goal

pub returns : goal.returns
unfolding escape_byte
returns c =
    one_number_added_in_two c.args.out.now.items _ _ (codes "{\"edited\":{\"number\":") (decimal c.args.n) c.in_ok-push_number.ensures c.in_ok-push.ensures
