-- When a claim may be granted.
use Rattle.std.specs.Prelude.{◌≡◌, ℕ, true, List, Some, IsTrue}
use Rattle.policy_book.specs.Laws.Shapes.{PolicyShape}
use Rattle.policy_book.specs.Policies.{flow_at, is_authorised, problem_of}
use Rattle.policy_book.specs.Laws.Plans.{IsCompletable}
use Rattle.case_record.specs.Cases.{CaseShape, finished_of, is_open}
use Rattle.case_record.specs.Order.{is_ready}
use Rattle.admin_edits.specs.ClaimCauses.{assigned_with}
use Rattle.wf_board.specs.Laws.States.{Book, numbered_case, step_named, user_named}

-- the case of a claim is open, and its step and its user are there
pub record AreNamed (b : Book) (n : ℕ) (step user : List ℕ) (c : CaseShape) (t u : ℕ) : Type 0 where
  pub its_case : numbered_case b.cases n ≡ Some c
  pub live : is_open c ≡ true
  pub its_step : step_named b c.flow step ≡ Some t
  pub its_user : user_named b user ≡ Some u

-- a user is authorised for a step of a case, the step is ready, and the case can be completed with
-- the step given to the user
pub record MayBeGranted (p : PolicyShape) (c : CaseShape) (t u : ℕ) : Type 0 where
  pub authorised : IsTrue (is_authorised p c.flow t u)
  pub ready : IsTrue (is_ready c (flow_at p c.flow).flow.order t)
  pub completable : IsCompletable (problem_of p c.flow) (assigned_with c t u) (finished_of c)
