use Rattle.std.proofs.Common.{◌≡◌}
use Rattle.policy_book.specs.Policies.{with_roster}
use Rattle.admin_edits.specs.Laws.Edits.{without_roles}
use Rattle.admin_edits.proofs.edited.leave.Given as goal

-- the roles so far are taken away
abbrev pub invariant-roles : goal.invariant-roles
invariant-roles l = l.p ≡ with_roster l.fn.p (record l.fn.p.roster { members = without_roles l.r l.fn.user l.fn.p.roster.members })
