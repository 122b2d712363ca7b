use Rattle.std.proofs.Common.{◌≡◌, take}
use Rattle.trial_command.specs.Counts.{counts_of}
use Rattle.trial_command.proofs.counts.count_replies.Given as goal

abbrev pub invariant-counting : goal.invariant-counting
invariant-counting l = l.counts ≡ counts_of (take l.entry-index l.entries)
