use Rattle.std.proofs.Common.{List, ℕ, subst}
use Rattle.memchr.specs.Find.{IsFirstByte, is_byte}
use Rattle.line_reader.proofs.FirstLines.{finds_end}
use Rattle.line_reader.proofs.reader.LineReader.find_end.Goals as goal

pub returns : goal.returns
returns c =
    finds_end c.args.self.now.ahead c.memchr.result
    (subst (λ (xs : List ℕ). IsFirstByte (is_byte 10) xs c.memchr.result) c.ahead.ensures.ahead c.memchr.ensures)
