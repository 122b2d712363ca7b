use Rattle.std.proofs.Common.{ap, sym, ◌∙◌}
use Rattle.transcript_audit.specs.Auditor.{next_job, present_jobs}
use Rattle.transcript_audit.proofs.Cursors.{next_past, next_placed}
use Rattle.transcript_audit.proofs.record.Record.next.Goals as goal

pub returns-then-lane-lt-LANE_LIMIT : goal.returns-then-lane-lt-LANE_LIMIT
returns-then-lane-lt-LANE_LIMIT c =
    c.job_at.ensures
    ∙ next_placed _ c.self.inside.cursor c.args.lane c.batch.result.now c.self.invariant c.if-lane-lt-LANE_LIMIT.true
    (c.batch.ensures ∙ sym (ap (λ r. present_jobs r.audit) c.self.view_is))
    ∙ ap (λ r. next_job r.audit c.args.lane) c.self.view_is

pub returns-else-lane-lt-LANE_LIMIT : goal.returns-else-lane-lt-LANE_LIMIT
returns-else-lane-lt-LANE_LIMIT c =
    next_past _ c.self.inside.cursor c.args.lane c.self.invariant c.if-lane-lt-LANE_LIMIT.false ∙ ap (λ r. next_job r.audit c.args.lane) c.self.view_is
