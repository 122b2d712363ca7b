use Rattle.std.proofs.Common.{ℕ, ◌+◌, ◌*◌, ◌<◌, ◌≤◌, ◌∷◌}
use Rattle.constraint_forms.specs.Assign.{planned}
use Rattle.resilience_check.specs.Lists.{users_away, Withstands}
use Rattle.resilience_check.proofs.covering.+breaking.Given as goal

abbrev pub decreases-can_break : goal.decreases-can_break
decreases-can_break l = 2 * l.left

abbrev pub decreases-can_break_one : goal.decreases-can_break_one
decreases-can_break_one l = 2 * l.left + 1

abbrev pub invariant-can_break_one-steps : goal.invariant-can_break_one-steps
invariant-can_break_one-steps l = (t : ℕ) → t < l.s → l.from ≤ planned l.plan t
    → Withstands l.plans (planned l.plan t ∷ users_away l.away) l.from l.left
