use Rattle.std.proofs.Common.{Result, Err, List, ℕ, true, refl, subst}
use Rattle.line_reader.specs.Jobs.{jobs_of_input}
use Rattle.run_record.specs.declared.fault.RunFault.TheVariants.{LineTooLong}
use Rattle.transcript_commands.specs.declared.start.Beginning.{Beginning}
use Rattle.transcript_commands.specs.declared.start.TheConstants.{TRANSCRIPT_FILE_LIMIT}
use Rattle.transcript_commands.specs.declared.refusal.Refusal.{Refusal}
use Rattle.transcript_commands.specs.declared.refusal.Refusal.TheVariants.{Ends}
use Rattle.transcript_commands.specs.Laws.Begun.{BeginsBy, StopsBy, session_of}
use Rattle.transcript_commands.specs.Load.{OverTranscript}
use Rattle.transcript_commands.proofs.Files.{line_long, lines_short, text_fails, text_there}
use Rattle.transcript_commands.proofs.Taken.{stopped}
use Rattle.transcript_commands.proofs.start.begin_behind.Goals as goal

pub returns-in_err-file-clause-begins : goal.returns-in_err-file-clause-begins
returns-in_err-file-clause-begins g c requests cut =
    text_fails TRANSCRIPT_FILE_LIMIT _ _ (g.F.Shelf.file c.args.shelf.now c.args.earlier.transcript.now) c.in_err-file.field-0.0 c.in_err-file.ensures.bytes
    (stopped c.from_residual.result c.in_err-file.field-0.0 c.from_residual.ensures.1)

pub returns-in-Some-clause-begins : goal.returns-in-Some-clause-begins
returns-in-Some-clause-begins g c requests cut =
    let file = jobs_of_input requests true c.args.earlier.lanes in
    let result : Result Beginning Refusal = Err (Ends (LineTooLong c.in-Some.line)) in
    let begins = λ (xs : List ℕ). BeginsBy (session_of c.args.policy.now c.args.earlier.lanes c.args.earlier.rounds file) file xs result in
    text_there TRANSCRIPT_FILE_LIMIT (StopsBy result) (OverTranscript (StopsBy result) begins)
    (g.F.Shelf.file c.args.shelf.now c.args.earlier.transcript.now) c.in_ok-file.file c.in_ok-file.ensures.bytes
    (subst (OverTranscript (StopsBy result) begins) c.as_bytes-transcript.ensures
    (line_long (StopsBy result) begins c.as_bytes-transcript.result.now c.first_long.result c.in-Some.line c.first_long.ensures c.in-Some.is refl))

pub returns-in-None-clause-begins : goal.returns-in-None-clause-begins
returns-in-None-clause-begins g c requests cut =
    let file = jobs_of_input requests true c.args.earlier.lanes in
    let result = c.take_up.result in
    let begins = λ (xs : List ℕ). BeginsBy (session_of c.args.policy.now c.args.earlier.lanes c.args.earlier.rounds file) file xs result in
    text_there TRANSCRIPT_FILE_LIMIT (StopsBy result) (OverTranscript (StopsBy result) begins)
    (g.F.Shelf.file c.args.shelf.now c.args.earlier.transcript.now) c.in_ok-file.file c.in_ok-file.ensures.bytes
    (subst (OverTranscript (StopsBy result) begins) c.as_bytes-transcript.ensures
    (lines_short (StopsBy result) begins c.as_bytes-transcript.result.now c.first_long.result c.first_long.ensures c.in-None.is
    (c.take_up.ensures.begins requests cut)))
