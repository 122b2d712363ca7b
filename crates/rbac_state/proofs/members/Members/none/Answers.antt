use Rattle.rbac_state.proofs.Rows.{none_within_limits, memberships_of-none}
use Rattle.rbac_state.proofs.members.Members.none.Goals as goal

pub invariant_of-result : goal.invariant_of-result
invariant_of-result c = none_within_limits _ c.no_rows.ensures

pub returns : goal.returns
returns c = memberships_of-none _ c.no_rows.ensures
