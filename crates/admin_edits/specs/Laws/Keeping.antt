-- What a change of a policy leaves as it was.
use Rattle.std.specs.Prelude.{◌≡◌, ℕ, List, ◌++◌, length, Ok}
use Rattle.policy_book.specs.Laws.Shapes.{PolicyShape}
use Rattle.policy_book.specs.Laws.Facts.{IsSoundPolicy}
use Rattle.policy_book.specs.Policies.{flow_at}
use Rattle.admin_edits.specs.declared.amendment.Amendment.{Amendment}
use Rattle.admin_edits.specs.Laws.Edits.{allowed, amended}
use Rattle.admin_edits.specs.Amendment.{IsKnownChange}

-- each number has the name that it had; there may be more users
pub record KeepsNames (before after : PolicyShape) : Type 0 where
  pub more : List (List ℕ)
  pub users : after.roster.users ≡ before.roster.users ++ more
  pub roles : after.roster.roles ≡ before.roster.roles
  pub flow_names : after.flow_names ≡ before.flow_names
  pub flows : length after.flows ≡ length before.flows
  pub steps : (f : ℕ) → (flow_at after f).flow.steps ≡ (flow_at before f).flow.steps

-- a change whose names are found keeps all names
abbrev pub ChangesKeepNames : Type 0
ChangesKeepNames = (p : PolicyShape) (a : Amendment) → IsKnownChange p a →
    KeepsNames p (amended p a)

-- a change that has no fault keeps what every policy keeps
abbrev pub ChangesKeepPoliciesSound : Type 0
ChangesKeepPoliciesSound =
    (p : PolicyShape) (a : Amendment) → IsSoundPolicy p → IsKnownChange p a →
    allowed p a ≡ Ok tt → IsSoundPolicy (amended p a)
