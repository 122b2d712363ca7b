use Rattle.std.proofs.Common.{arith}
use Rattle.constraint_forms.proofs.Counting.{from_zero, users_from-same}
use Rattle.constraint_forms.proofs.evaluate.count_planned.Goals as goal

pub returns : goal.returns
returns c = grind (arith, users_from-same, from_zero)
