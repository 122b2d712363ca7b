use Rattle.std.proofs.Common.{ap, arith}
use Rattle.std.proofs.lemmas.Grind.{common_steps}
use Rattle.line_reader.specs.BatchReader.{BatchReaderShape}
use Rattle.line_reader.proofs.ReadingLaws.{take_more}
use Rattle.line_reader.proofs.batch_reader.BatchReader.advance.Goals.{in-Ok-true, in-Ok-false, in-Err}
use Rattle.line_reader.proofs.batch_reader.BatchReader.advance.Goals as goal

pub returns-then-not-is_empty-clause-steps : goal.returns-then-not-is_empty-clause-steps
returns-then-not-is_empty-clause-steps g c = c.cut_on.ensures.steps (g.S.Source.left c.args.source.now)

pub returns-clause-reads : goal.returns-clause-reads
returns-clause-reads g c before h read =
    let more = take_more before _ _ h c.args.self.now _ (grind (arith, common_steps)) (ap (λ (s : BatchReaderShape). s.cut) c.self.view_is)
    c.fill.ensures.taken read in
    elim c.match-fill.branch [
      | in-Ok-true w ↦ rw w.result-is more
      | in-Ok-false w ↦ rw w.result-is more
      | in-Err w ↦ rw w.result-is more
    ]
