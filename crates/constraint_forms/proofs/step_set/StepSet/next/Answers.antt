use Rattle.std.proofs.Common.{arith}
use Rattle.wf_names.specs.declared.limits.TheConstants.{STEP_LIMIT}
use Rattle.constraint_forms.proofs.Bits.{length-flags_of, has_no_flag}
use Rattle.constraint_forms.proofs.NextSteps.{none_from, next_from}
use Rattle.constraint_forms.proofs.step_set.StepSet.next.Goals as goal

pub returns-then-from-ge-STEP_LIMIT-clause-next : goal.returns-then-from-ge-STEP_LIMIT-clause-next
returns-then-from-ge-STEP_LIMIT-clause-next c = grind (arith, has_no_flag)

pub returns-then-from-ge-STEP_LIMIT-clause-len : goal.returns-then-from-ge-STEP_LIMIT-clause-len
returns-then-from-ge-STEP_LIMIT-clause-len c = rw (← c.self.view_is) (length-flags_of STEP_LIMIT c.self.inside.bits)

pub returns-then-rest-eq0-clause-next : goal.returns-then-rest-eq0-clause-next
returns-then-rest-eq0-clause-next c = grind (arith, none_from)

pub returns-then-rest-eq0-clause-len : goal.returns-then-rest-eq0-clause-len
returns-then-rest-eq0-clause-len c = rw (← c.self.view_is) (length-flags_of STEP_LIMIT c.self.inside.bits)

pub returns-else-rest-eq0-clause-next : goal.returns-else-rest-eq0-clause-next
returns-else-rest-eq0-clause-next c = grind (arith, next_from)

pub returns-else-rest-eq0-clause-len : goal.returns-else-rest-eq0-clause-len
returns-else-rest-eq0-clause-len c = rw (← c.self.view_is) (length-flags_of STEP_LIMIT c.self.inside.bits)
