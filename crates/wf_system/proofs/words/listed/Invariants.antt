use Rattle.std.proofs.Common.{◌≡◌, ◌++◌}
use Rattle.std.specs.Vec.Iter.{into_iter_items, into_iter_len}
use Rattle.wf_system.proofs.words.listed.Given as goal

abbrev pub invariant-listing : goal.invariant-listing
invariant-listing l = l.words.items ++ into_iter_items l.args ≡ into_iter_items l.fn.args

abbrev pub decreases-listing : goal.decreases-listing
decreases-listing l = into_iter_len l.args
