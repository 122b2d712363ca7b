use Rattle.std.proofs.Common.{◌≡◌, ◌+◌, map}
use Rattle.std.specs.List.{range_with_len}
use Rattle.constraint_forms.specs.declared.rule.Rule.TheVariants.{Pair}
use Rattle.trial_command.proofs.steps.rules_of.Given as goal

abbrev pub invariant-steps : goal.invariant-steps
invariant-steps l = l.rules ≡ map (λ k. Pair 1 k (k + 1)) (range_with_len 0 l.s)
