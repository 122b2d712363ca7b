use Rattle.std.proofs.Common.{◌≤◌, length, sym, subst, ◌∙◌}
use Rattle.basics.proofs.Booleans.{eq_back}
use Rattle.transcript_audit.specs.Laws.Outcomes.{IsWhole}
use Rattle.transcript_audit.proofs.Sound.{whole_at_end, within_jobs}
use Rattle.transcript_audit.proofs.record.Record.is_done.Goals as goal

pub returns-clause-whole : goal.returns-clause-whole
returns-clause-whole c full =
    subst (λ r. IsWhole r.audit) c.self.view_is
    (whole_at_end _ c.self.inside.cursor.batch c.self.invariant.sound (sym c.len.ensures ∙ eq_back c.len.result c.len-2.result full ∙ c.len-2.ensures))

pub returns-clause-within : goal.returns-clause-within
returns-clause-within c =
    subst (λ r. length r.audit.entries ≤ length r.audit.jobs) c.self.view_is (within_jobs _ c.self.inside.cursor.batch c.self.invariant.sound)
