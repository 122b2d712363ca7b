use Rattle.std.proofs.Common.{◌≡◌, ◌+◌, ◌-◌, ◌≤◌, drop}
use Rattle.wf_names.specs.declared.limits.TheConstants.{STEP_LIMIT}
use Rattle.constraint_forms.specs.Assign.{user_at}
use Rattle.constraint_forms.specs.Rules.{different, users_from}
use Rattle.constraint_forms.proofs.count.count_users.Given as goal

abbrev pub invariant-members : goal.invariant-members
invariant-members l = record {
  below : l.from ≤ STEP_LIMIT;
  few : l.count ≤ l.from;
  rest : l.count + different (users_from l.from (drop l.from l.group) (user_at l.a)) ≡ different (users_from 0 l.group (user_at l.a));
}

abbrev pub decreases-members : goal.decreases-members
decreases-members l = STEP_LIMIT - l.from
