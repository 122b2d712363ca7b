use Rattle.std.proofs.Common.{◌≡◌, false, arith}
use Rattle.std.specs.Prelude.{is_some}
use Rattle.wire_json.proofs.PlainLines.{lane_read}
use Rattle.wire_json.proofs.plain.Known.read_lane.Goals as goal

pub returns : goal.returns
returns c =
    let none : is_some c.args.self.now.lane ≡ false = grind arith in
    lane_read c.args.self.now c.args.text.now c.in_ok-lane.rest.now c.in_ok-lane.lane none c.in_ok-lane.ensures.small c.in_ok-lane.ensures.text
