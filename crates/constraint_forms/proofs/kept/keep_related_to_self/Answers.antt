use Rattle.std.proofs.Common.{arith}
use Rattle.basics.proofs.Booleans.{eq_other, eq_same}
use Rattle.constraint_forms.proofs.Related.{kept_if, out_before, taken_out}
use Rattle.constraint_forms.proofs.kept.keep_related_to_self.Goals as goal

pub users-preserved : goal.users-preserved
users-preserved g c = grind (arith, eq_other, taken_out, eq_same, kept_if, out_before)
