use Rattle.std.proofs.Common.{◌≡◌, ℕ, ◌+◌, ◌<◌, ◌≤◌, List, ◌∷◌, ◌++◌, true, length}
use Rattle.resilience_check.specs.Left.{AreUsersInOrder}
use Rattle.resilience_check.specs.Covering.{leaves_some}
use Rattle.resilience_check.specs.Searches.{FamilyGrows}
use Rattle.resilience_check.proofs.finding.+first_breaking.Given as goal

abbrev pub decreases-first_breaking : goal.decreases-first_breaking
decreases-first_breaking l = l.left

abbrev pub invariant-users : goal.invariant-users
invariant-users l = record {
  same : l.absent ≡ l.fn.absent;
  grown : FamilyGrows l.course.policy.now l.course.number l.fn.family l.family;
  each : (v : ℕ) → l.from ≤ v → v < l.u → (other : List ℕ) → AreUsersInOrder (v + 1) (length l.course.policy.now.roster.users) other → length other + 1 ≡ l.left
      → leaves_some l.family (l.fn.absent ++ (v ∷ other)) ≡ true;
}
