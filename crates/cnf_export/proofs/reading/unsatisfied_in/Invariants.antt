use Rattle.std.proofs.Common.{◌≡◌, ◌+◌, length}
use Rattle.cnf_export.specs.Saying.{has_variable}
use Rattle.cnf_export.specs.Readings.{first_false}
use Rattle.cnf_export.proofs.reading.unsatisfied_in.Given as goal

-- no clause so far is false
abbrev pub invariant-clauses : goal.invariant-clauses
invariant-clauses l = record {
  rest : first_false l.k (has_variable l.m) l.encoder.left ≡ first_false 0 (has_variable l.m) l.fn.encoder.all;
  count : l.k + length l.encoder.left ≡ length l.fn.encoder.all;
}

abbrev pub decreases-clauses : goal.decreases-clauses
decreases-clauses l = length l.encoder.left
