use Rattle.std.proofs.Common.{◌≡◌, ◌-◌, ◌≤◌, drop}
use Rattle.wf_names.specs.declared.limits.TheConstants.{STEP_LIMIT}
use Rattle.constraint_forms.specs.Assign.{user_at}
use Rattle.constraint_forms.specs.Rules.{is_among, users_from}
use Rattle.constraint_forms.proofs.count.is_user_from.Given as goal

abbrev pub invariant-members : goal.invariant-members
invariant-members l = record {
  below : l.from ≤ STEP_LIMIT;
  rest : is_among (users_from l.from (drop l.from l.group) (user_at l.a)) l.u ≡ is_among (users_from l.first (drop l.first l.group) (user_at l.a)) l.u;
}

abbrev pub decreases-members : goal.decreases-members
decreases-members l = STEP_LIMIT - l.from
