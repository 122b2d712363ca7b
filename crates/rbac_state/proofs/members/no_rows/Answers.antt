use Rattle.wf_names.specs.declared.limits.TheConstants.{ROLE_LIMIT}
use Rattle.rbac_state.proofs.Rows.{none_in_copies}
use Rattle.rbac_state.proofs.members.no_rows.Goals as goal

pub returns : goal.returns
returns c = none_in_copies ROLE_LIMIT c.empty.result c.empty.ensures.none
