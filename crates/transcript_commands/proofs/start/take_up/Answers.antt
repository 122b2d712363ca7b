use Rattle.std.proofs.Common.{take, ap, sym, subst, ◌∙◌}
use Rattle.wf_desk.specs.Desks.{DeskShape}
use Rattle.transcript_commands.specs.Resumed.{HasResumed, Session}
use Rattle.transcript_commands.specs.Sessions.{session_over}
use Rattle.transcript_commands.specs.Laws.Begun.{ends_to}
use Rattle.transcript_commands.proofs.Taken.{has_begun, lacked, refused_so}
use Rattle.transcript_commands.proofs.start.take_up.Goals as goal

pub returns-in_err-reader-clause-begins : goal.returns-in_err-reader-clause-begins
returns-in_err-reader-clause-begins g c requests cut = lacked _ _ _ _ c.from_residual.ensures.1

pub returns-in_err-resumed-clause-begins : goal.returns-in_err-resumed-clause-begins
returns-in_err-resumed-clause-begins g c requests cut =
    refused_so c.args.policy.now c.args.earlier.lanes c.args.earlier.rounds requests c.args.transcript.now c.args.text c.in_err-resumed.field-0.0
    c.from_residual-in_err-resumed.result cut
    c.in_err-resumed.ensures.refused
    c.from_residual-in_err-resumed.ensures.1

pub returns-in_err-with_told-clause-begins : goal.returns-in_err-with_told-clause-begins
returns-in_err-with_told-clause-begins g c requests cut = lacked _ _ _ _ c.from_residual-in_err-with_told.ensures.1

pub returns-clause-begins : goal.returns-clause-begins
returns-clause-begins g c requests cut =
    let b = c.in_ok-with_told.field-0 in
    let w = c.in_ok-with_told.ensures in
    let r = c.in_ok-resumed.ensures in
    let s : Session = session_over c.args.policy.now c.args.earlier.lanes c.args.earlier.rounds c.args.text.batch in
    let next = c.in_ok-resumed.resumed.next in
    has_begun c.args.policy.now c.args.earlier.lanes c.args.earlier.rounds requests c.args.transcript.now c.args.text next c.in_ok-reader.reader b
    c.admin.ensures.sound c.requires.whole.order c.inputs_go_on.ensures cut c.requires.whole.going
    (subst (λ (d : DeskShape). HasResumed s c.args.transcript.now next d) (sym w.desk)
    r.resumed)
    (record {
      file_jobs = w.file_jobs ∙ r.jobs;
      file_ends = w.file_ends ∙ r.ends;
      count = w.count ∙ ap (ends_to next) r.ends;
      ends = w.ends ∙ ap (take b.count) r.ends;
      reader = w.reader;
    })
    c.in_ok-reader.ensures
