use Rattle.std.proofs.Common.{refl, ◌∙◌}
use Rattle.transcript_commands.proofs.Runs.{told_run, untold_run, refused_run}
use Rattle.transcript_commands.proofs.audit.run_audit.Goals as goal

pub returns-in-Ok-tell-clause-audits : goal.returns-in-Ok-tell-clause-audits
returns-in-Ok-tell-clause-audits g c =
    told_run c.args.session.policy.now c.args.session.requests.now c.args.session.lanes c.args.session.rounds _ c.in-Ok.finding
    (c.bare_report.ensures.fault ∙ c.ending.ensures)
    c.in-Ok.ensures.finds c.in-Ok.ensures.named c.in-Ok.ensures.ends.without c.in-Ok.ensures.loads c.in-Ok.ensures.reads c.in-Ok-tell.ensures.counts
    c.in-Ok.ensures.input c.in-Ok-tell.ensures.told c.bare_report.ensures.told

pub returns-in-Err-tell-clause-audits : goal.returns-in-Err-tell-clause-audits
returns-in-Err-tell-clause-audits g c =
    untold_run c.args.session.policy.now c.args.session.requests.now c.args.session.lanes c.args.session.rounds _ c.in-Ok.finding c.in-Err-tell.fault
    c.bare_report-in-Err-tell.ensures.fault c.in-Err-tell.ensures.fails
    c.in-Ok.ensures.finds c.in-Ok.ensures.named c.in-Ok.ensures.ends.without c.in-Ok.ensures.loads c.in-Ok.ensures.reads c.in-Err-tell.ensures.counts
    c.in-Ok.ensures.input c.bare_report-in-Err-tell.ensures.told

pub returns-in-Err-clause-audits : goal.returns-in-Err-clause-audits
returns-in-Err-clause-audits g c =
    rw (c.bare_report-in-Err.ensures.fault, c.bare_report-in-Err.ensures.told)
    (refused_run c.args.session.policy.now c.args.session.requests.now c.args.session.lanes c.args.session.rounds _ c.in-Err.ensures.ends.ending
    c.in-Err.ensures.finds c.in-Err.ensures.named
    c.in-Err.ensures.ends.without c.in-Err.ensures.loads c.in-Err.ensures.reads
    refl c.in-Err.ensures.input refl refl)
