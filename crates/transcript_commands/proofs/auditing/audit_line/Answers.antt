use Rattle.std.proofs.Common.{ℕ, List, subst}
use Rattle.transcript_commands.specs.Steps.{TakesLine}
use Rattle.transcript_commands.proofs.Passing.{line_taken, end_found, long_found}
use Rattle.transcript_commands.proofs.auditing.audit_line.Goals as goal

pub returns-in-Line-clause-steps : goal.returns-in-Line-clause-steps
returns-in-Line-clause-steps g c first before h =
    line_taken first c.args.auditor.now c.take_line.new.auditor before (g.S.Source.left c.args.source.now) (g.S.Source.left c.next.new.source)
    c.args.reader.now c.next.new.self c.take_line.result
    h c.in-Line.ensures.reads c.requires.reader.limit c.requires.reader.room
    (subst (λ (l : List ℕ). TakesLine c.args.auditor.now c.take_line.new.auditor l c.take_line.result) c.line.ensures c.take_line.ensures.takes)

pub returns-in-End-clause-steps : goal.returns-in-End-clause-steps
returns-in-End-clause-steps g c first before h =
    end_found first c.args.auditor.now before (g.S.Source.left c.args.source.now) (g.S.Source.left c.next.new.source) c.args.reader.now c.next.new.self
    c.find_end.result h c.in-End.ensures.reads c.find_end.ensures

pub returns-in-TooLong-clause-steps : goal.returns-in-TooLong-clause-steps
returns-in-TooLong-clause-steps g c first before h =
    long_found first c.args.auditor.now before (g.S.Source.left c.args.source.now) (g.S.Source.left c.next.new.source) c.args.reader.now c.next.new.self
    c.args.number h c.in-TooLong.ensures.reads
    c.requires.reader.limit c.requires.reader.room c.requires.at.here
