-- The numbers of a change are those of a policy.
use Rattle.std.specs.Prelude.{ℕ, ◌<◌, length}
use Rattle.policy_book.specs.Laws.Shapes.{PolicyShape}
use Rattle.policy_book.specs.Policies.{flow_at}
use Rattle.admin_edits.specs.declared.amendment.Amendment.{Amendment}
use Rattle.admin_edits.specs.declared.amendment.Amendment.TheVariants as amend

-- a user and a role of a policy
pub record AreMember (p : PolicyShape) (u r : ℕ) : Type 0 where
  pub user : u < length p.roster.users
  pub role : r < length p.roster.roles

-- two users of a policy
pub record ArePair (p : PolicyShape) (u v : ℕ) : Type 0 where
  pub first : u < length p.roster.users
  pub second : v < length p.roster.users

-- a workflow of a policy, one of its steps, and a role
pub record ArePermit (p : PolicyShape) (f r s : ℕ) : Type 0 where
  pub flow : f < length p.flows
  pub role : r < length p.roster.roles
  pub step : s < length (flow_at p f).flow.steps

-- the numbers of a change are those of a policy
abbrev pub IsKnownChange : PolicyShape → Amendment → Type 0
IsKnownChange p (amend.AddUser name) = Unit {0}
IsKnownChange p (amend.Leave u) = u < length p.roster.users
IsKnownChange p (amend.Enrol u r) = AreMember p u r
IsKnownChange p (amend.Dismiss u r) = AreMember p u r
IsKnownChange p (amend.Relate rho u v) = ArePair p u v
IsKnownChange p (amend.Unrelate rho u v) = ArePair p u v
IsKnownChange p (amend.Permit f r s) = ArePermit p f r s
IsKnownChange p (amend.Forbid f r s) = ArePermit p f r s
IsKnownChange p (amend.Retire f) = f < length p.flows
