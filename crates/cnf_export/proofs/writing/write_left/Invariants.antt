use Rattle.std.proofs.Common.{◌≡◌, ◌++◌, length}
use Rattle.std.specs.List.{flat_map}
use Rattle.cnf_export.specs.Text.{clause_line}
use Rattle.cnf_export.specs.Writing.{HasPut}
use Rattle.cnf_export.proofs.writing.write_left.Given as goal

-- all of the text is put but what is kept and the clauses that are left
abbrev pub invariant-writing : goal.invariant-writing
invariant-writing g l = record {
  put : HasPut (g.K.Sink.held l.fn.sink) (g.K.Sink.held l.sink) (l.fn.out.items ++ flat_map clause_line l.fn.encoder.left)
      (l.out.items ++ flat_map clause_line l.encoder.left);
  faults : g.K.Sink.faults l.sink ≡ g.K.Sink.faults l.fn.sink;
}

abbrev pub decreases-writing : goal.decreases-writing
decreases-writing g l = length l.encoder.left
