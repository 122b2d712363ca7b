use Rattle.std.proofs.Common.{true, length, ap, arith}
use Rattle.line_reader.specs.Reader.{ReaderShape}
use Rattle.line_reader.proofs.Going.{line_is_last}
use Rattle.line_reader.proofs.reader.LineReader.finish.Goals as goal

pub returns-clause-reads : goal.returns-clause-reads
returns-clause-reads c before after =
    line_is_last before after c.args.self.now _ c.requires.begun c.requires.none
    (omega (arith, c.if-len-eq0.false, c.len.ensures, ap (λ (s : ReaderShape). length s.line) c.self.view_is))
    (ap (λ (s : ReaderShape). record s { handed = true }) c.self.view_is)
