use Rattle.std.proofs.Common.{◌≡◌, ◌≤◌, ◌-◌, drop, length}
use Rattle.line_reader.specs.Reader.{lines_of}
use Rattle.transcript_commands.specs.Resumed.{first_long}
use Rattle.transcript_commands.proofs.lines.first_long_of.Given as goal

abbrev pub invariant-looking : goal.invariant-looking
invariant-looking l =
    record {
      within : l.at ≤ length l.text;
      count : l.number ≤ l.at;
      goes : first_long l.number (lines_of (drop l.at l.text)) ≡ first_long 0 (lines_of l.text);
    }

abbrev pub decreases-looking : goal.decreases-looking
decreases-looking l = length l.text - l.at
