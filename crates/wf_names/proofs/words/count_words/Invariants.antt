use Rattle.std.proofs.Common.{◌≡◌, ◌*◌, ◌≤◌, take, count_ones}
use Rattle.std.specs.List.{sum_by}
use Rattle.wf_names.proofs.words.count_words.Given as goal

abbrev pub invariant-lanes : goal.invariant-lanes
invariant-lanes l = (l.count ≡ sum_by count_ones (take (l.lane * 8) l.words)) × (l.count ≤ 512 * l.lane)

abbrev pub invariant-rest : goal.invariant-rest
invariant-rest l = (l.count ≡ sum_by count_ones (take l.i l.words)) × (l.count ≤ 64 * l.i)
