use Rattle.std.proofs.Common.{ℕ, [], ◌≤◌, ◌-◌, length, take}
use Rattle.line_reader.specs.Whole.{HasCutUp}
use Rattle.line_reader.proofs.jobs.cut_bytes.Given as goal

abbrev pub invariant-cutting : goal.invariant-cutting
invariant-cutting l =
    record {
      within : l.at ≤ length l.bytes;
      cut : (lanes : ℕ) → HasCutUp lanes l.fn.whole.jobs l.fn.whole.ends l.fn.cutter [] → HasCutUp lanes l.whole.jobs l.whole.ends l.cutter (take l.at l.bytes);
    }

abbrev pub decreases-cutting : goal.decreases-cutting
decreases-cutting l = length l.bytes - l.at
