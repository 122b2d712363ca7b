-- Inside: what is known of the names of a policy.
use Rattle.std.specs.Prelude.{ℕ}
use Rattle.wf_names.specs.Table.{AreNames}
use Rattle.policy_book.specs.Laws.Shapes.{PolicyShape}
use Rattle.policy_book.specs.Policies.{flow_at}

-- each table of names has distinct names, each of a name's form
pub record HasNames (p : PolicyShape) : Type 0 where
  pub users : AreNames p.roster.users
  pub roles : AreNames p.roster.roles
  pub flow_names : AreNames p.flow_names
  pub steps : (f : ℕ) → AreNames (flow_at p f).flow.steps
