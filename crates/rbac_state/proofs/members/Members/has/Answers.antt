use Rattle.std.proofs.Common.{arith}
use Rattle.rbac_state.proofs.Rows.{memberships_of-has, memberships_of-past}
use Rattle.rbac_state.proofs.members.Members.has.Goals as goal

pub returns-in-Some-clause-held : goal.returns-in-Some-clause-held
returns-in-Some-clause-held c = grind (arith, memberships_of-has)

pub returns-in-None-clause-held : goal.returns-in-None-clause-held
returns-in-None-clause-held c = grind (arith, memberships_of-past)
