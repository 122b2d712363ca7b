-- Who is in a set of steps.
use Rattle.std.proofs.Common.{◌≡◌, ℕ, false, arith}
use Rattle.constraint_forms.specs.Assign.{is_member, no_steps}

-- no step is in the empty set
pub none_member : (s : ℕ) → is_member no_steps s ≡ false
unfolding no_steps
none_member s = grind arith
