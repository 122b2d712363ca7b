use Rattle.std.proofs.Common.{arith}
use Rattle.constraint_forms.proofs.Related.{stay_before}
use Rattle.constraint_forms.proofs.kept.keep_ahead.Goals as goal

pub returns-in-Some : goal.returns-in-Some
returns-in-Some g c = grind (arith, stay_before)
