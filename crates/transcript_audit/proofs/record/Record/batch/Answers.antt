use Rattle.std.proofs.Common.{ap, ◌∙◌}
use Rattle.transcript_audit.specs.Auditor.{present_jobs}
use Rattle.transcript_audit.specs.Keeping.{part}
use Rattle.transcript_audit.proofs.Cursors.{batch_is, cursor_order, cursor_within}
use Rattle.transcript_audit.proofs.record.Record.batch.Goals as goal

pub jobs_between-requires-clause-order : goal.jobs_between-requires-clause-order
jobs_between-requires-clause-order c = cursor_order _ c.self.inside.cursor c.self.invariant

pub jobs_between-requires-clause-within : goal.jobs_between-requires-clause-within
jobs_between-requires-clause-within c = rw c.as_slice.ensures (cursor_within _ c.self.inside.cursor c.self.invariant)

pub returns : goal.returns
returns c =
    c.jobs_between.ensures ∙ ap (part c.self.inside.cursor.start c.self.inside.cursor.end) c.as_slice.ensures ∙ batch_is _ c.self.inside.cursor c.self.invariant
    ∙ ap (λ r. present_jobs r.audit) c.self.view_is
