use Rattle.std.proofs.Common.{◌≡◌, drop}
use Rattle.wf_board.specs.Counting.{counted}
use Rattle.wf_desk.proofs.journal.any_counts.Given as goal

abbrev pub invariant-counting : goal.invariant-counting
invariant-counting l = counted l.ask (drop l.entry-index l.entries) ≡ counted l.ask l.entries
