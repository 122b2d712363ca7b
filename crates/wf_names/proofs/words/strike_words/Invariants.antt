use Rattle.std.proofs.Common.{◌*◌}
use Rattle.wf_names.specs.Words.{minus, IsMixedUpTo}
use Rattle.wf_names.proofs.words.strike_words.Given as goal

abbrev pub invariant-lanes : goal.invariant-lanes
invariant-lanes l = IsMixedUpTo minus (l.lane * 8) l.fn.into l.by l.into

abbrev pub invariant-rest : goal.invariant-rest
invariant-rest l = IsMixedUpTo minus l.i l.fn.into l.by l.into
