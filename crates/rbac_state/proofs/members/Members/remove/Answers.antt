use Rattle.std.proofs.Common.{arith}
use Rattle.std.proofs.lemmas.List.{get_or_default}
use Rattle.rbac_state.proofs.Rows.{memberships_of-remove}
use Rattle.rbac_state.proofs.members.Members.remove.Goals as goal

pub returns : goal.returns
returns c = grind (arith, get_or_default, memberships_of-remove)
