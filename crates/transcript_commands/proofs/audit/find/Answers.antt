use Rattle.std.proofs.Common.{Err, refl, subst}
use Rattle.wf_outside.specs.Laws.Outside.{Filed}
use Rattle.run_record.specs.Fault.{fault_in}
use Rattle.transcript_commands.specs.Audit.{AuditOf, AuditsPolicy, Input}
use Rattle.transcript_commands.specs.Run.{EndsFinding}
use Rattle.transcript_commands.proofs.Endings.{loads_end, reads_end}
use Rattle.transcript_commands.proofs.Loaded.{finds_behind, finds_under, jobs_there, no_jobs, no_policy}
use Rattle.wf_commands.proofs.Loading.{policy_named}
use Rattle.transcript_commands.proofs.Runs.{unread_after}
use Rattle.transcript_commands.proofs.audit.find.Goals as goal

pub returns-in_err-p-clause-input : goal.returns-in_err-p-clause-input
returns-in_err-p-clause-input g c =
    unread_after c.from_residual.result c.in_err-p.field-0.0 (g.S.Source.left c.args.source.now) c.from_residual.ensures.1 c.in_err-p.ensures.ending

pub returns-in_err-p-clause-finds : goal.returns-in_err-p-clause-finds
returns-in_err-p-clause-finds g c =
    no_policy
    (AuditsPolicy
    (record { requests = g.F.Shelf.file c.args.shelf.now c.args.session.requests.now; lanes = c.args.session.lanes; rounds = c.args.session.rounds })
    (record { before = g.S.Source.left c.args.source.now; after = g.S.Source.left c.args.source.now }))
    (g.F.Shelf.file c.args.shelf.now c.args.session.policy.now) c.from_residual.result c.in_err-p.field-0.0 c.from_residual.ensures.1 c.in_err-p.ensures.policy
    c.in_err-p.ensures.ending

pub returns-in_err-p-clause-ends : goal.returns-in_err-p-clause-ends
returns-in_err-p-clause-ends g c =
    loads_end (g.F.Shelf.file c.args.shelf.now c.args.session.requests.now) c.from_residual.result c.in_err-p.field-0.0 c.from_residual.ensures.1
    c.in_err-p.ensures.ending

pub returns-in-Err-clause-finds : goal.returns-in-Err-clause-finds
returns-in-Err-clause-finds g c =
    let o : AuditOf = record {
      requests = g.F.Shelf.file c.load_policy.new.shelf c.args.session.requests.now;
      lanes = c.args.session.lanes;
      rounds = c.args.session.rounds;
    } in
    let i : Input = record { before = g.S.Source.left c.args.source.now; after = g.S.Source.left c.args.source.now } in
    finds_behind (g.F.Shelf.file c.args.shelf.now c.args.session.policy.now) c.in_ok-p.p o _ i (Err c.in-Err.fault) c.in_ok-p.ensures.policy
    (c.in_ok-p.ensures.kept c.args.session.requests.now)
    (no_jobs c.in_ok-p.p o i (Err c.in-Err.fault) c.in-Err.fault refl c.in-Err.ensures.jobs c.in-Err.ensures.ending)

pub returns-in-Err-clause-named : goal.returns-in-Err-clause-named
returns-in-Err-clause-named g c =
    policy_named (g.F.Shelf.file c.args.shelf.now c.args.session.policy.now) c.in_ok-p.p _ c.in_ok-p.ensures.policy

pub returns-in-Err-clause-input : goal.returns-in-Err-clause-input
returns-in-Err-clause-input g c =
    unread_after (Err c.in-Err.fault) c.in-Err.fault (g.S.Source.left c.args.source.now) refl c.in-Err.ensures.ending

pub returns-in-Err-clause-ends : goal.returns-in-Err-clause-ends
returns-in-Err-clause-ends g c =
    loads_end (g.F.Shelf.file c.args.shelf.now c.args.session.requests.now) (Err c.in-Err.fault) c.in-Err.fault refl c.in-Err.ensures.ending

pub returns-in-Ok-clause-finds : goal.returns-in-Ok-clause-finds
returns-in-Ok-clause-finds g c =
    let o : AuditOf = record {
      requests = g.F.Shelf.file c.load_policy.new.shelf c.args.session.requests.now;
      lanes = c.args.session.lanes;
      rounds = c.args.session.rounds;
    } in
    let i : Input = record { before = g.S.Source.left c.args.source.now; after = g.S.Source.left c.audit_session.new.source } in
    finds_behind (g.F.Shelf.file c.args.shelf.now c.args.session.policy.now) c.in_ok-p.p o _ i c.audit_session.result c.in_ok-p.ensures.policy
    (c.in_ok-p.ensures.kept c.args.session.requests.now)
    (finds_under c.legal_is_exact.ensures c.in_ok-p.p o i c.in-Ok.batch c.audit_session.result c.in-Ok.ensures.jobs c.audit_session.ensures.session
    c.audit_session.ensures.found
    c.audit_session.ensures.ending)

pub returns-in-Ok-clause-named : goal.returns-in-Ok-clause-named
returns-in-Ok-clause-named g c =
    policy_named (g.F.Shelf.file c.args.shelf.now c.args.session.policy.now) c.in_ok-p.p _ c.in_ok-p.ensures.policy

pub returns-in-Ok-clause-ends : goal.returns-in-Ok-clause-ends
returns-in-Ok-clause-ends g c =
    let requests = g.F.Shelf.file c.load_policy.new.shelf c.args.session.requests.now in
    subst (λ (x : Filed). EndsFinding x c.audit_session.result) (c.in_ok-p.ensures.kept c.args.session.requests.now)
    (reads_end requests c.audit_session.result c.audit_session.ensures.ending
    (jobs_there requests c.args.session.lanes c.in-Ok.batch (fault_in c.audit_session.result) c.in-Ok.ensures.jobs))
