use Rattle.std.proofs.Common.{◌≡◌, ◌-◌, ◌++◌, map, length}
use Rattle.constraint_forms.specs.Assign.{is_member}
use Rattle.policy_book.specs.Laws.Refuting.{passing}
use Rattle.cnf_export.specs.Laws.Encodings.{members}
use Rattle.cnf_export.specs.Terms.{pair_group_at}
use Rattle.cnf_export.proofs.grouping.add_pairs.Given as goal

abbrev pub invariant-members : goal.invariant-members
invariant-members l =
    l.made.items ++ map (pair_group_at l.back l.rho l.step) (passing (is_member l.group) l.x (length l.group - l.x))
    ≡ l.fn.made.items ++ map (pair_group_at l.back l.rho l.step) (members l.group)
