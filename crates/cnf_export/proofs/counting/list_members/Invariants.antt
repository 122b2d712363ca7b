use Rattle.std.proofs.Common.{◌≡◌, ◌-◌, ◌++◌, suc, map, length}
use Rattle.constraint_forms.specs.Assign.{is_member}
use Rattle.policy_book.specs.Laws.Refuting.{passing}
use Rattle.cnf_export.specs.Laws.Encodings.{members}
use Rattle.cnf_export.proofs.counting.list_members.Given as goal

-- the members so far, and those to come
abbrev pub invariant-members : goal.invariant-members
invariant-members l = l.into ++ map (λ t. suc t) (passing (is_member l.group) l.t (length l.group - l.t)) ≡ map (λ t. suc t) (members l.group)
