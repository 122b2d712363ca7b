use Rattle.std.proofs.Common.{◌≡◌, ◌+◌, ◌*◌, ◌∷◌, map}
use Rattle.std.specs.List.{range_with_len}
use Rattle.wf_names.specs.declared.limits.TheConstants.{BATCH_LINE_LIMIT}
use Rattle.trial_command.proofs.jobs.batch_ends.Given as goal

abbrev pub invariant-batches : goal.invariant-batches
invariant-batches l = l.ends ≡ l.first ∷ map (λ b. l.first + BATCH_LINE_LIMIT * b) (range_with_len 1 l.batch)
