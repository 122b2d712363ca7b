-- Inside: a change of a policy is known to have no fault in one way alone.
use Rattle.std.specs.Coded.{Unit-prop, le_prop}
use Rattle.policy_book.specs.Laws.Shapes.{PolicyShape}
use Rattle.admin_edits.specs.declared.amendment.Amendment.{Amendment}
use Rattle.admin_edits.specs.declared.amendment.Amendment.TheVariants as amend
use Rattle.admin_edits.specs.Amendment.{IsKnownChange}

-- the numbers of a change are known in one way alone
pub known-prop : (p : PolicyShape) (a : Amendment) → IsProp (IsKnownChange p a)
known-prop p (amend.AddUser name) = Unit-prop
known-prop p (amend.Leave u) = le_prop
known-prop p (amend.Enrol u r) = Prim.hlevel le_prop
known-prop p (amend.Dismiss u r) = Prim.hlevel le_prop
known-prop p (amend.Relate rho u v) = Prim.hlevel le_prop
known-prop p (amend.Unrelate rho u v) = Prim.hlevel le_prop
known-prop p (amend.Permit f r s) = Prim.hlevel le_prop
known-prop p (amend.Forbid f r s) = Prim.hlevel le_prop
known-prop p (amend.Retire f) = le_prop
