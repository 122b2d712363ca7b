use Rattle.std.specs.Prelude.{codes, decimal}
use Rattle.wire_json.specs.Pieces.{head_text, plan_ending}
use Rattle.wire_json.proofs.Lines.{line_in_four, line_of, opened_ends}
use Rattle.wire_json.proofs.writer.LineWriter.push_opened.Goals as goal

pub returns-clause-added : goal.returns-clause-added
returns-clause-added c =
    line_of c.args.self.now c.args.e.now _ _ _ _ c.requires (opened_ends c.args.self.now c.args.case c.args.plan.now)
    (line_in_four _ _ _ _ _ (head_text c.args.e.now) (codes "{\"opened\":{\"case\":") (decimal c.args.case)
    (plan_ending c.args.self.now.roster.users c.args.plan.now)
    c.in_ok-push_head.ensures c.in_ok-push_case.ensures c.in_ok-push.ensures c.in_ok-push_ending.ensures.added)
