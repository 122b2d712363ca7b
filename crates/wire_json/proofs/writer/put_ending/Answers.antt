use Rattle.std.specs.Prelude.{codes}
use Rattle.std.proofs.Common.{arith}
use Rattle.serde_json.specs.Written.{compact_text}
use Rattle.wire_json.specs.Entries.{plan_data}
use Rattle.wire_json.proofs.Heads.{ending_made}
use Rattle.wire_json.proofs.Texts.{all_dropped}
use Rattle.wire_json.proofs.writer.put_ending.Goals as goal

pub returns-clause-written : goal.returns-clause-written
returns-clause-written c =
    ending_made _ _ _ _ (codes "}}}\n") (compact_text (plan_data c.args.users.now.names c.args.plan.now)) (codes "\"plan\":")
    (all_dropped c.args.cells.now 1050 (omega arith)) c.put_bytes-end.ensures.written c.put_plan-names.ensures.written
    c.put_bytes.ensures.written
