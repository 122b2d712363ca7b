use Rattle.std.proofs.Common.{◌≡◌, ◌+◌}
use Rattle.cnf_export.specs.Models.{last_below}
use Rattle.cnf_export.specs.Saying.{has_variable}
use Rattle.cnf_export.proofs.seen.last_seen.Given as goal

abbrev pub invariant-users : goal.invariant-users
invariant-users l = last_below l.below (λ u. has_variable l.m (l.first + u)) ≡ last_below l.n (λ u. has_variable l.m (l.first + u))

abbrev pub decreases-users : goal.decreases-users
decreases-users l = l.below
