-- Inside: a step of a case that may be given to a user.
use Rattle.std.specs.Prelude.{ℕ, ◌<◌, List, length}
use Rattle.policy_book.specs.Laws.Shapes.{PolicyShape}
use Rattle.case_record.specs.Cases.{CaseShape}
use Rattle.wf_board.specs.Edition.{IsPlanOf}
use Rattle.wf_board.specs.Laws.Kept.{IsOfPolicy}

-- a case of a policy with the valid plan that is kept for it, one of its steps, and a user of the
-- policy
pub record IsOffer (p : PolicyShape) (c : CaseShape) (plan : List ℕ) (t u : ℕ) : Type 0 where
  pub known : IsOfPolicy p c
  pub valid : IsPlanOf p c plan
  pub step : t < length c.states
  pub user : u < length p.roster.users
