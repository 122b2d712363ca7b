use Rattle.std.proofs.Common.{bit_or, arith}
use Rattle.std.proofs.lemmas.Nat.{or_lt}
use Rattle.wf_names.specs.declared.limits.TheConstants.{STEP_LIMIT}
use Rattle.constraint_forms.proofs.Bits.{length-flags_of}
use Rattle.constraint_forms.proofs.NextSteps.{flags_of-or}
use Rattle.constraint_forms.proofs.step_set.StepSet.union.Goals as goal

pub invariant_of-result : goal.invariant_of-result
invariant_of-result c = or_lt STEP_LIMIT c.self.inside.bits c.by.inside.bits c.self.invariant c.by.invariant

pub returns-clause-either : goal.returns-clause-either
returns-clause-either c = grind (arith, flags_of-or)

pub returns-clause-len : goal.returns-clause-len
returns-clause-len c = length-flags_of STEP_LIMIT (bit_or c.self.inside.bits c.by.inside.bits)
