use Rattle.std.proofs.Common.{◌<◌, ℕ, length}
use Rattle.constraint_forms.specs.Assign.{planned}
use Rattle.certificate_check.proofs.plan.has_known.Given as goal

-- the policy has the users of the steps so far
abbrev pub invariant-steps : goal.invariant-steps
invariant-steps l = (t : ℕ) → t < l.s → planned l.plan t < length l.p.roster.users
