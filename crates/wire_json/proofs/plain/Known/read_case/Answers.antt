use Rattle.std.proofs.Common.{◌≡◌, false, arith}
use Rattle.std.specs.Prelude.{is_some}
use Rattle.wire_json.proofs.PlainLines.{case_read}
use Rattle.wire_json.proofs.plain.Known.read_case.Goals as goal

pub returns : goal.returns
returns c =
    let none : is_some c.args.self.now.case ≡ false = grind arith in
    case_read c.args.self.now c.args.text.now c.in_ok-case.rest.now c.in_ok-case.case none c.in_ok-case.ensures.small c.in_ok-case.ensures.text
