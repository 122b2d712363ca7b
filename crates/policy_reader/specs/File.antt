-- What is true of every policy that a file gives.
use Rattle.std.specs.Prelude.{ℕ, ◌<◌, ◌≤◌, List, length, IsTrue}
use Rattle.std.specs.List.{All}
use Rattle.wf_names.specs.declared.limits.TheConstants.{STEP_LIMIT}
use Rattle.wf_names.specs.Names.{is_name}
use Rattle.policy_book.specs.Laws.Shapes.{PolicyShape}
use Rattle.policy_book.specs.Policies.{flow_at}
use Rattle.policy_book.specs.Laws.Facts.{IsSoundPolicy}
use Rattle.policy_reader.specs.Relations.{names_of}

-- all names of a list have a name's form
abbrev pub AreOfForm : List (List ℕ) → Type 0
AreOfForm names = All (λ name. IsTrue (is_name name)) names

-- numbers are in range and limits are met, no workflow has more steps than the limit, and each
-- user, role, relation, workflow and step has a name of a name's form
pub record IsFilePolicy (p : PolicyShape) : Type 0 where
  pub sound : IsSoundPolicy p
  pub steps : (f : ℕ) → f < length p.flows → length (flow_at p f).flow.steps ≤ STEP_LIMIT
  pub users : AreOfForm p.roster.users
  pub roles : AreOfForm p.roster.roles
  pub relations : AreOfForm (names_of p.relations)
  pub flow_names : AreOfForm p.flow_names
  pub step_names : (f : ℕ) → f < length p.flows → AreOfForm (flow_at p f).flow.steps
