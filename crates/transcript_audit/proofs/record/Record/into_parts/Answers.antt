use Rattle.std.proofs.Common.{subst}
use Rattle.wf_desk.specs.Laws.Parts.{FillsPart}
use Rattle.transcript_audit.proofs.Parts.{fills_part}
use Rattle.transcript_audit.proofs.record.Record.into_parts.Goals as goal

pub returns-clause-part : goal.returns-clause-part
returns-clause-part c =
    subst (λ r. FillsPart r.audit.entries r.audit.jobs r.audit.batch_ends) c.self.view_is (fills_part _ c.self.inside.cursor.batch c.self.invariant.sound)
