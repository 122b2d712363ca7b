use Rattle.std.proofs.Common.{◌≡◌, ℕ, ◌&&◌, nat_lt}
use Rattle.constraint_forms.specs.Assign.{is_member}
use Rattle.constraint_forms.specs.Rules.{names}
use Rattle.wsp_solver.proofs.steps.steps_named.Given as goal

abbrev pub invariant-steps : goal.invariant-steps
invariant-steps l = (t : ℕ) → is_member l.named t ≡ (nat_lt t l.s && names l.rule t)
