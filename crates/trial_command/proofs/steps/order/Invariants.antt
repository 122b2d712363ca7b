use Rattle.std.proofs.Common.{◌≡◌, ◌+◌, map}
use Rattle.std.specs.List.{range_with_len}
use Rattle.trial_command.proofs.steps.order.Given as goal

abbrev pub invariant-steps : goal.invariant-steps
invariant-steps l = l.order.items ≡ map (λ k. (k, k + 1)) (range_with_len 0 l.s)
