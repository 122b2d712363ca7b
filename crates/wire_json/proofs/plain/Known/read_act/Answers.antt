use Rattle.std.proofs.Common.{◌≡◌, false, arith}
use Rattle.std.specs.Prelude.{is_some}
use Rattle.wire_json.proofs.PlainLines.{act_read}
use Rattle.wire_json.proofs.plain.Known.read_act.Goals as goal

pub returns : goal.returns
returns c =
    let none : is_some c.args.self.now.act ≡ false = grind arith in
    act_read c.args.self.now c.args.text.now c.in_ok-act.rest.now c.in_ok-act.act none c.in_ok-act.ensures
