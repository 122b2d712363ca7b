use Rattle.std.specs.FinSet as set
use Rattle.policy_reader.proofs.Words.{◌≡◌, false, any_below}
use Rattle.policy_reader.proofs.file.some_user_has.Given as goal

abbrev pub invariant-users : goal.invariant-users
invariant-users l = any_below l.u (λ u. set.contains l.roster.members (u, l.r)) ≡ false
