use Rattle.std.proofs.Common.{◌≡◌, Some, drop}
use Rattle.constraint_forms.specs.Assign.{planned}
use Rattle.constraint_forms.specs.Rules.{is_among, users_from}
use Rattle.cnf_export.specs.Models.{has_some}
use Rattle.cnf_export.proofs.saying.takes_some.Given as goal

-- a later member has the user
abbrev pub invariant-members : goal.invariant-members
invariant-members l = is_among (users_from l.t (drop l.t l.group) (λ s. Some (planned l.plan s))) l.u ≡ has_some l.group l.plan l.u
