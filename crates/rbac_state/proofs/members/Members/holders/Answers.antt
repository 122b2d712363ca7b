use Rattle.std.proofs.Common.{arith}
use Rattle.rbac_state.proofs.Rows.{memberships_of-has, memberships_of-past}
use Rattle.rbac_state.proofs.members.Members.holders.Goals as goal

pub returns-in-Some : goal.returns-in-Some
returns-in-Some c = grind (arith, memberships_of-has)

pub returns-in-None : goal.returns-in-None
returns-in-None c = grind (arith, memberships_of-past)
