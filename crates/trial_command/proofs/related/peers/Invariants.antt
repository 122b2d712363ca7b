use Rattle.std.proofs.Common.{◌≡◌}
use Rattle.trial_command.proofs.Peers.{peers_among}
use Rattle.trial_command.proofs.related.peers.Given as goal

abbrev pub invariant-pairs : goal.invariant-pairs
invariant-pairs l = l.pairs ≡ peers_among l.n
