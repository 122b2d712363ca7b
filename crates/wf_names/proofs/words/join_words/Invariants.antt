use Rattle.std.proofs.Common.{◌*◌, bit_or}
use Rattle.wf_names.specs.Words.{IsMixedUpTo}
use Rattle.wf_names.proofs.words.join_words.Given as goal

abbrev pub invariant-lanes : goal.invariant-lanes
invariant-lanes l = IsMixedUpTo bit_or (l.lane * 8) l.fn.into l.by l.into

abbrev pub invariant-rest : goal.invariant-rest
invariant-rest l = IsMixedUpTo bit_or l.i l.fn.into l.by l.into
