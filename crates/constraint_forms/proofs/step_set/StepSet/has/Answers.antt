use Rattle.std.proofs.Common.{arith}
use Rattle.wf_names.specs.declared.limits.TheConstants.{STEP_LIMIT}
use Rattle.constraint_forms.proofs.Bits.{length-flags_of, not_below, has_flag, has_no_flag}
use Rattle.constraint_forms.proofs.step_set.StepSet.has.Goals as goal

pub returns-then-s-lt-STEP_LIMIT-clause-flag : goal.returns-then-s-lt-STEP_LIMIT-clause-flag
returns-then-s-lt-STEP_LIMIT-clause-flag c = grind (arith, has_flag)

pub returns-then-s-lt-STEP_LIMIT-clause-len : goal.returns-then-s-lt-STEP_LIMIT-clause-len
returns-then-s-lt-STEP_LIMIT-clause-len c = rw (← c.self.view_is) (length-flags_of STEP_LIMIT c.self.inside.bits)

pub returns-else-s-lt-STEP_LIMIT-clause-flag : goal.returns-else-s-lt-STEP_LIMIT-clause-flag
returns-else-s-lt-STEP_LIMIT-clause-flag c = grind (arith, has_no_flag, not_below)

pub returns-else-s-lt-STEP_LIMIT-clause-len : goal.returns-else-s-lt-STEP_LIMIT-clause-len
returns-else-s-lt-STEP_LIMIT-clause-len c = rw (← c.self.view_is) (length-flags_of STEP_LIMIT c.self.inside.bits)
