use Rattle.std.proofs.Common.{◌≡◌, ◌≤◌, ◌+◌, Some, length}
use Rattle.std.specs.List.{slice_split}
use Rattle.basics.specs.Laws.Reading.{each}
use Rattle.cnf_export.specs.ModelText.{is_lf, take_line, words_read}
use Rattle.cnf_export.proofs.model_text.read_lines.Given as goal

-- the rest of the lines say the same
abbrev pub invariant-lines : goal.invariant-lines
invariant-lines l = record {
  rest : each (take_line l.limit) (l.flags, l.words) (slice_split is_lf l.rest) ≡ each (take_line l.limit) (l.fn.flags, Some 0) (slice_split is_lf l.text);
  places : l.limit ≤ length l.flags;
  few : words_read l.words + length l.rest ≤ length l.text;
}

abbrev pub decreases-lines : goal.decreases-lines
decreases-lines l = length l.rest
