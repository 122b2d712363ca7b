use Rattle.std.proofs.Common.{Result, Err, true, ap, subst}
use Rattle.wf_outside.specs.Laws.Outside.{Filed}
use Rattle.run_record.specs.declared.fault.RunFault.{RunFault}
use Rattle.transcript_commands.specs.declared.start.Beginning.{Beginning}
use Rattle.transcript_commands.specs.declared.refusal.Refusal.{Refusal}
use Rattle.transcript_commands.specs.declared.refusal.Refusal.TheVariants.{Ends}
use Rattle.line_reader.specs.Jobs.{Cut, jobs_of_input}
use Rattle.transcript_commands.specs.Laws.Begun.{BeginsBy, StopsBy, session_of}
use Rattle.transcript_commands.specs.Load.{OverTranscriptFile}
use Rattle.transcript_commands.proofs.Files.{limit_kept, limit_met, loads_refused, requests_fail, requests_there}
use Rattle.transcript_commands.proofs.Taken.{stopped}
use Rattle.transcript_commands.proofs.start.begin_under.Goals as goal

pub returns-in_err-text-clause-begins : goal.returns-in_err-text-clause-begins
returns-in_err-text-clause-begins g c =
    let result = c.from_residual.result in
    requests_fail c.args.earlier.lanes (StopsBy result)
    (λ cut. OverTranscriptFile (StopsBy result) (λ xs. BeginsBy (session_of c.args.policy.now c.args.earlier.lanes c.args.earlier.rounds cut) cut xs result)
    (g.F.Shelf.file c.args.shelf.now c.args.earlier.transcript.now))
    (g.F.Shelf.file c.args.shelf.now c.args.earlier.requests.now) c.in_err-text.field-0.0 c.in_err-text.ensures.cut
    (stopped c.from_residual.result c.in_err-text.field-0.0 c.from_residual.ensures.1)

pub returns-in-Some-clause-begins : goal.returns-in-Some-clause-begins
returns-in-Some-clause-begins g c =
    let result : Result Beginning Refusal = Err (Ends c.ending_at.result) in
    let Goes = λ (cut : Cut). OverTranscriptFile (StopsBy result)
    (λ xs. BeginsBy (session_of c.args.policy.now c.args.earlier.lanes c.args.earlier.rounds cut) cut xs result)
    (g.F.Shelf.file c.args.shelf.now c.args.earlier.transcript.now) in
    requests_there c.args.earlier.lanes (StopsBy result) Goes (g.F.Shelf.file c.args.shelf.now c.args.earlier.requests.now) c.in_ok-text.text
    c.in_ok-text.ensures.cut
    (λ requests cut. limit_met c.args.earlier.lanes (StopsBy result) Goes requests c.in_ok-text.text c.in-Some.stop cut c.in-Some.is
    (ap (λ (f : RunFault). Err (Ends f)) c.ending_at.ensures.fault))

pub returns-in-Some-clause-loads : goal.returns-in-Some-clause-loads
returns-in-Some-clause-loads g c = loads_refused c.ending_at.result _ _ c.ending_at.ensures.loads c.in_ok-text.ensures.loads

pub returns-in-None-clause-begins : goal.returns-in-None-clause-begins
returns-in-None-clause-begins g c =
    let result = c.begin_behind.result in
    let over = λ (cut : Cut) (f : Filed). OverTranscriptFile (StopsBy result)
    (λ xs. BeginsBy (session_of c.args.policy.now c.args.earlier.lanes c.args.earlier.rounds cut) cut xs result) f in
    let there = g.F.Shelf.file c.args.shelf.now c.args.earlier.transcript.now in
    requests_there c.args.earlier.lanes (StopsBy result) (λ cut. over cut there)
    (g.F.Shelf.file c.args.shelf.now c.args.earlier.requests.now) c.in_ok-text.text c.in_ok-text.ensures.cut
    (λ requests cut. limit_kept c.args.earlier.lanes (StopsBy result) (λ x. over x there) requests c.in_ok-text.text cut c.in-None.is
    (subst (over (jobs_of_input requests true c.args.earlier.lanes)) (c.in_ok-text.ensures.kept c.args.earlier.transcript.now)
    (c.begin_behind.ensures.begins requests cut)))
