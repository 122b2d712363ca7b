use Rattle.std.specs.Prelude.{codes}
use Rattle.wire_json.specs.Pieces.{head_text, plan_ending}
use Rattle.wire_json.proofs.Lines.{granted_ends, line_in_two, line_of}
use Rattle.wire_json.proofs.writer.LineWriter.push_granted.Goals as goal

pub returns-clause-added : goal.returns-clause-added
returns-clause-added c =
    line_of c.args.self.now c.args.e.now _ _ _ _ c.requires (granted_ends c.args.self.now c.args.plan.now)
    (line_in_two _ _ _ (head_text c.args.e.now) (codes "{\"granted\":{") (plan_ending c.args.self.now.roster.users c.args.plan.now)
    c.in_ok-push_head.ensures c.in_ok-push_ending.ensures.added)
