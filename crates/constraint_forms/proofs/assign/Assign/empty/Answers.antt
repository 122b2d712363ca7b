use Rattle.std.proofs.Common.{refl}
use Rattle.constraint_forms.specs.Assign.{no_users}
use Rattle.constraint_forms.proofs.assign.Assign.empty.Goals as goal

pub returns-clause-value : goal.returns-clause-value
unfolding no_users
returns-clause-value c = refl
