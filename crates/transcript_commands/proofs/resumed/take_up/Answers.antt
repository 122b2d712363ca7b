use Rattle.std.proofs.Common.{ℕ, Err, ap, refl, ◌∙◌}
use Rattle.transcript_audit.specs.Auditor.{AuditShape}
use Rattle.transcript_commands.specs.Resumed.{Session}
use Rattle.transcript_commands.proofs.LinesTaken.{refused_of, state_of, taken_of}
use Rattle.transcript_commands.proofs.resumed.take_up.Goals as goal

pub returns-in-Err-take_lines-clause-refused : goal.returns-in-Err-take_lines-clause-refused
returns-in-Err-take_lines-clause-refused g c =
    let s : Session =
    record { policy = c.args.policy; lanes = c.args.lanes; rounds = c.args.rounds; jobs = c.args.batch.jobs; batch_ends = c.args.batch.ends } in
    refused_of {A = ℕ} c.faults_exclude.ensures c.next_is_one.ensures c.part_is_exact.ensures s c.args.transcript.now c.whole_lines.result.now c.in-Ok.auditor
    (Err c.in-Err-take_lines.fault)
    c.in-Err-take_lines.fault c.in-Ok.ensures.session c.in-Ok.ensures.first c.whole_lines.ensures c.in-Err-take_lines.ensures.fails refl

pub returns-in-Ok-take_lines-clause-taken : goal.returns-in-Ok-take_lines-clause-taken
returns-in-Ok-take_lines-clause-taken g c =
    let s : Session =
    record { policy = c.args.policy; lanes = c.args.lanes; rounds = c.args.rounds; jobs = c.args.batch.jobs; batch_ends = c.args.batch.ends } in
    taken_of c.part_is_exact.ensures s c.args.transcript.now c.whole_lines.result.now c.in-Ok.auditor c.take_lines.new.auditor
    c.parts_of.result.1.entries
    c.in-Ok.ensures.session c.in-Ok.ensures.first c.whole_lines.ensures c.in-Ok-take_lines.ensures.taken c.parts_of.ensures.entries

pub returns-in-Ok-take_lines-clause-state : goal.returns-in-Ok-take_lines-clause-state
returns-in-Ok-take_lines-clause-state g c =
    state_of c.args.policy c.args.rounds c.args.batch.jobs c.args.batch.ends _ c.in-Ok.auditor c.take_lines.new.auditor _ c.parts_of.result.1.entries
    c.in-Ok.ensures.first c.in-Ok-take_lines.ensures.taken c.parts_of.ensures.state c.parts_of.ensures.entries

pub returns-in-Ok-take_lines-clause-jobs : goal.returns-in-Ok-take_lines-clause-jobs
returns-in-Ok-take_lines-clause-jobs g c =
    c.parts_of.ensures.jobs ∙ ap (λ (x : AuditShape). x.jobs) c.in-Ok-take_lines.ensures.taken.after ∙ ap (λ (x : AuditShape). x.jobs) c.in-Ok.ensures.first

pub returns-in-Ok-take_lines-clause-ends : goal.returns-in-Ok-take_lines-clause-ends
returns-in-Ok-take_lines-clause-ends g c =
    c.parts_of.ensures.ends ∙ ap (λ (x : AuditShape). x.batch_ends) c.in-Ok-take_lines.ensures.taken.after
    ∙ ap (λ (x : AuditShape). x.batch_ends) c.in-Ok.ensures.first
