use Rattle.std.proofs.Common.{◌≡◌, ℕ, ◌<◌, ◌-◌, ◌≤◌, ◌||◌, drop}
use Rattle.wf_names.specs.declared.limits.TheConstants.{STEP_LIMIT, USER_LIMIT}
use Rattle.wf_names.specs.UserSets.{has_user}
use Rattle.constraint_forms.specs.Assign.{user_at}
use Rattle.constraint_forms.specs.Rules.{is_among, users_from}
use Rattle.constraint_forms.proofs.count.users_of.Given as goal

abbrev pub invariant-members : goal.invariant-members
invariant-members l = record {
  below : l.from ≤ STEP_LIMIT;
  rest : (u : ℕ) → u < USER_LIMIT →
      (is_among (users_from l.from (drop l.from l.group) (user_at l.a)) u || has_user l.users u) ≡ is_among (users_from 0 l.group (user_at l.a)) u;
}

abbrev pub decreases-members : goal.decreases-members
decreases-members l = STEP_LIMIT - l.from
