use Rattle.std.proofs.Common.{◌≡◌, Some, ap, ◌∙◌, arith}
use Rattle.wire_json.proofs.PlainLines.{asks, known_asked}
use Rattle.wire_json.proofs.plain.Known.asked.Goals as goal

pub returns : goal.returns
returns c =
    let case : c.args.self.now.case ≡ Some c.case_id-case.result = grind arith in
    ap (asks c.in_ok-lane.lane) c.request.ensures
    ∙ known_asked c.args.self.now c.args.lanes c.in_ok-act.act c.case_id-case.result c.in_ok-step.step c.in_ok-user.user c.in_ok-lane.lane c.in_ok-act.was case
    c.in_ok-step.was c.in_ok-user.was (grind arith) c.as_str-step.ensures.form c.as_str-user.ensures.form c.in_ok-lane.ensures
