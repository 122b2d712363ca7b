use Rattle.transcript_commands.proofs.LinesTaken.{failed_first, took_first}
use Rattle.transcript_commands.proofs.taking.take_first.Goals as goal

pub returns-in-Ok-clause-taken : goal.returns-in-Ok-clause-taken
returns-in-Ok-clause-taken g c =
    took_first c.args.auditor.now c.line.new.self c.args.text.now c.first_len-count.result c.requires.some c.first_len-count.ensures.line
    c.first_len-count.ensures.behind
    c.in-Ok.ensures.taken

pub returns-in-Err-clause-fails : goal.returns-in-Err-clause-fails
returns-in-Err-clause-fails g c =
    failed_first c.args.auditor.now c.line.new.self c.args.text.now c.first_len-count.result c.in-Err.fault c.requires.some c.first_len-count.ensures.line
    c.requires.going
    c.in-Err.ensures.taken
