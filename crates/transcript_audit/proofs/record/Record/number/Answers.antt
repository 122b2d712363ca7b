use Rattle.std.proofs.Common.{◌≤◌, length, subst, arith}
use Rattle.wf_names.specs.declared.limits.TheConstants.{SESSION_LINE_LIMIT}
use Rattle.transcript_audit.proofs.Sound.{entries_few}
use Rattle.transcript_audit.proofs.record.Record.number.Goals as goal

pub overflow_cast-result : goal.overflow_cast-result
overflow_cast-result c =
    let few = entries_few _ c.self.inside.cursor.batch c.self.invariant.sound in
    let len = c.len.ensures in
    omega (arith, few, len)

pub returns-clause-few : goal.returns-clause-few
returns-clause-few c = subst (λ r. length r.audit.entries ≤ SESSION_LINE_LIMIT) c.self.view_is (entries_few _ c.self.inside.cursor.batch c.self.invariant.sound)
