use Rattle.std.specs.Prelude.{codes, decimal}
use Rattle.json.specs.Print.{escape_byte}
use Rattle.wire_json.proofs.Texts.{numbers_added_in_two}
use Rattle.wire_json.proofs.reply.push_again.Goals as goal

pub returns : goal.returns
unfolding escape_byte
returns c =
    numbers_added_in_two c.args.out.now.items _ _ _ (codes "{\"again\":{\"at\":") (decimal c.args.at) (codes ",\"rounds\":") (decimal c.args.rounds)
    c.in_ok-push_number.ensures
    c.in_ok-push_number-2.ensures c.in_ok-push.ensures
