use Rattle.std.proofs.Common.{◌≡◌, ◌-◌, ◌++◌, ◌&&◌, map, length}
use Rattle.std.specs.List.{flat_map}
use Rattle.constraint_forms.specs.Assign.{is_member}
use Rattle.constraint_forms.specs.Rules.{turned}
use Rattle.policy_book.specs.Laws.Refuting.{passing}
use Rattle.cnf_export.specs.Laws.Clauses.{yes_to}
use Rattle.cnf_export.specs.Laws.Encodings.{has, members, users_who}
use Rattle.cnf_export.specs.Terms.{encoding_in}
use Rattle.cnf_export.proofs.terms.Terms.add_members.Given as goal

abbrev pub invariant-members : goal.invariant-members
invariant-members l =
    l.into ++ flat_map (λ t. map (λ u. yes_to (has (encoding_in l.self) t u)) (users_who (encoding_in l.self) (λ u. (encoding_in l.self).may_have t u &&
    turned l.back (encoding_in l.self).related l.rho u l.v))) (passing (is_member l.group) l.t (length l.group - l.t))
    ≡ l.fn.into ++ flat_map (λ t. map (λ u. yes_to (has (encoding_in l.self) t u)) (users_who (encoding_in l.self)
    (λ u. (encoding_in l.self).may_have t u && turned l.back (encoding_in l.self).related l.rho u l.v))) (members l.group)
