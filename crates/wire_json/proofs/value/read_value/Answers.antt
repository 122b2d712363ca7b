use Rattle.std.proofs.Common.{sym}
use Rattle.serde_json.specs.View.{view}
use Rattle.wire_json.proofs.Values.{value_of_utf8}
use Rattle.wire_json.proofs.value.read_value.Goals as goal

pub returns-in-Ok-from_str : goal.returns-in-Ok-from_str
returns-in-Ok-from_str c =
    sym (value_of_utf8 c.args.text.now c.in-Ok.chars.now (view c.in-Ok-from_str.value) c.in-Ok.ensures.cases.0 c.in-Ok.ensures.cases.1
    c.in-Ok-from_str.ensures.ok)
