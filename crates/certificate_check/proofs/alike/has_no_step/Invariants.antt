use Rattle.std.proofs.Common.{◌≡◌, ◌<◌, true, not, length}
use Rattle.wf_names.specs.declared.limits.TheConstants.{STEP_LIMIT}
use Rattle.constraint_forms.specs.Assign.{user_at}
use Rattle.policy_book.specs.Laws.Twins.{all_below, is_given_to}
use Rattle.certificate_check.proofs.alike.has_no_step.Given as goal

abbrev pub invariant-steps : goal.invariant-steps
invariant-steps l = (all_below l.s (λ s. not (is_given_to l.u (user_at l.a s))) ≡ true) × (0 < l.s → length l.a ≡ STEP_LIMIT)
