use Rattle.std.proofs.Common.{arith}
use Rattle.std.proofs.lemmas.Grind.{common_steps}
use Rattle.line_reader.proofs.Going.{piece_failed}
use Rattle.line_reader.proofs.reader.LineReader.advance.Goals as goal

pub returns-then-not-is_empty-clause-steps : goal.returns-then-not-is_empty-clause-steps
returns-then-not-is_empty-clause-steps g c = c.read_on.ensures.steps (g.S.Source.left c.args.source.now)

pub returns-in-Err-clause-steps : goal.returns-in-Err-clause-steps
returns-in-Err-clause-steps g c =
    piece_failed (g.S.Source.left c.args.source.now) (g.S.Source.left c.fill.new.source) c.args.self.now _ c.requires (grind (arith, common_steps))
    (grind (arith, common_steps)) (rw c.in-Err.ensures.nothing at c.fill.ensures.taken)
