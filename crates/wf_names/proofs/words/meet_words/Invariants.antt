use Rattle.std.proofs.Common.{◌*◌, bit_and}
use Rattle.wf_names.specs.Words.{IsMixedUpTo}
use Rattle.wf_names.proofs.words.meet_words.Given as goal

abbrev pub invariant-lanes : goal.invariant-lanes
invariant-lanes l = IsMixedUpTo bit_and (l.lane * 8) l.fn.into l.by l.into

abbrev pub invariant-rest : goal.invariant-rest
invariant-rest l = IsMixedUpTo bit_and l.i l.fn.into l.by l.into
