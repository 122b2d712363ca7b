use Rattle.std.proofs.Common.{◌≡◌, drop, nat_eq}
use Rattle.wf_board.specs.Counting.{count_of}
use Rattle.wf_desk.proofs.journal.any_of_lane.Given as goal

abbrev pub invariant-looking : goal.invariant-looking
invariant-looking l = count_of (λ e. nat_eq e.lane l.lane) (drop l.entry-index l.entries) ≡ count_of (λ e. nat_eq e.lane l.lane) l.entries
