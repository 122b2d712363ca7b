use Rattle.std.proofs.Common.{◌-◌, ◌≤◌}
use Rattle.wf_names.specs.declared.limits.TheConstants.{USER_LIMIT}
use Rattle.user_relations.specs.Rows.{AreListedTo}
use Rattle.user_relations.proofs.blocks.add_row.Given as goal

abbrev pub invariant-users : goal.invariant-users
invariant-users l = (l.from ≤ USER_LIMIT) × AreListedTo l.blocks l.u l.from l.pairs.items

abbrev pub decreases-users : goal.decreases-users
decreases-users l = USER_LIMIT - l.from
