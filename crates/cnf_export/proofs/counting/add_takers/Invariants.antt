use Rattle.std.proofs.Common.{◌≡◌, ◌-◌, ◌++◌, map, length}
use Rattle.constraint_forms.specs.Assign.{is_member}
use Rattle.policy_book.specs.Laws.Refuting.{passing}
use Rattle.cnf_export.specs.Laws.Clauses.{yes_to}
use Rattle.cnf_export.specs.Laws.Encodings.{has, members}
use Rattle.cnf_export.specs.Terms.{encoding_in}
use Rattle.cnf_export.proofs.counting.add_takers.Given as goal

abbrev pub invariant-members : goal.invariant-members
invariant-members l =
    l.into ++ map (λ t. yes_to (has (encoding_in l.terms) t l.u)) (passing (is_member l.group) l.t (length l.group - l.t))
    ≡ l.fn.into ++ map (λ t. yes_to (has (encoding_in l.terms) t l.u)) (members l.group)
