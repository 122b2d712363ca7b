use Rattle.std.proofs.Common.{length}
use Rattle.cnf_export.specs.Positions.{left_from}
use Rattle.cnf_export.specs.Sizes.{IsCounted}
use Rattle.cnf_export.specs.Terms.{encoding_in}
use Rattle.cnf_export.proofs.tally.count.Given as goal

abbrev pub invariant-counting : goal.invariant-counting
invariant-counting l = IsCounted (left_from (encoding_in l.terms) l.groups l.fn.at) (left_from (encoding_in l.terms) l.groups l.at) l.clauses l.size

abbrev pub decreases-counting : goal.decreases-counting
decreases-counting l = length (left_from (encoding_in l.terms) l.groups l.at)
