use Rattle.std.proofs.Common.{length, ap, arith}
use Rattle.line_reader.proofs.FirstLines.{open_line}
use Rattle.line_reader.proofs.Going.{goes_behind, line_ends, line_grows, line_passes, nothing_read}
use Rattle.line_reader.proofs.reader.LineReader.read_on.Goals as goal

pub read_all-requires-clause-going : goal.read_all-requires-clause-going
read_all-requires-clause-going c = goes_behind c.args.self.now c.requires.begun c.in-None.ensures

pub returns-in-Ok-clause-steps : goal.returns-in-Ok-clause-steps
returns-in-Ok-clause-steps c left =
    line_ends left c.args.self.now c.read_line.new.self c.in-Some.n c.free-free.result c.requires.begun c.ahead-count.ensures.within c.in-Some.ensures
    c.if-n-free.true c.free-free.ensures c.in-Ok.ensures.read

pub returns-in-Err-clause-steps : goal.returns-in-Err-clause-steps
returns-in-Err-clause-steps c left = nothing_read left c.args.self.now c.read_line.new.self c.in-Err.ensures.unchanged

pub returns-in-Ok-read_all-clause-steps : goal.returns-in-Ok-read_all-clause-steps
returns-in-Ok-read_all-clause-steps c left =
    line_grows left c.args.self.now c.read_all.new.self c.free-free.result c.requires.begun c.requires.some c.in-None.ensures
    (omega (arith, c.if-count-free.true, ap length c.ahead-count.ensures.ahead)) c.free-free.ensures c.in-Ok-read_all.ensures.read

pub returns-in-Err-read_all-clause-steps : goal.returns-in-Err-read_all-clause-steps
returns-in-Err-read_all-clause-steps c left = nothing_read left c.args.self.now c.read_all.new.self c.in-Err-read_all.ensures.unchanged

pub returns-in_default-clause-steps : goal.returns-in_default-clause-steps
returns-in_default-clause-steps c left =
    line_passes left c.args.self.now c.free-free.result c.requires.begun c.ahead-count.ensures.within c.free-free.ensures
    (omega (arith, c.in-Some.ensures.counted, c.if-n-free.false))

pub returns-in_default-2-clause-steps : goal.returns-in_default-2-clause-steps
returns-in_default-2-clause-steps c left =
    line_passes left c.args.self.now c.free-free.result c.requires.begun c.ahead-count.ensures.within c.free-free.ensures
    (omega (arith, (open_line c.args.self.now.ahead c.in-None.ensures).counted, c.if-count-free.false, ap length c.ahead-count.ensures.ahead))
