use Rattle.std.proofs.Common.{◌≡◌, ◌%◌, map}
use Rattle.std.specs.List.{range_with_len}
use Rattle.trial_command.proofs.steps.permits.Given as goal

abbrev pub invariant-steps : goal.invariant-steps
invariant-steps l = l.permits.items ≡ map (λ k. (k % 5, k)) (range_with_len 0 l.s)
