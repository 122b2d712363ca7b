use Rattle.std.proofs.Common.{◌≡◌, ◌≤◌, ◌+◌, length}
use Rattle.std.specs.List.{slice_split}
use Rattle.basics.specs.Laws.Reading.{each}
use Rattle.cnf_export.specs.ModelText.{is_blank, next_part, take_line, words_read}
use Rattle.cnf_export.proofs.model_text.read_line.Given as goal

-- the rest of the parts say the same
abbrev pub invariant-parts : goal.invariant-parts
invariant-parts l = record {
  rest : each (next_part l.limit) (l.flags, l.after) (slice_split is_blank l.rest) ≡ take_line l.limit (l.fn.flags, l.fn.words) l.line;
  places : length l.flags ≡ length l.fn.flags;
  few : words_read l.after + length l.rest ≤ words_read l.fn.words + length l.line;
}

abbrev pub decreases-parts : goal.decreases-parts
decreases-parts l = length l.rest
