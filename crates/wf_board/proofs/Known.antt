-- A case stays one of the policy where it is opened and where its steps change.
use Rattle.wf_board.proofs.Common.{◌≡◌, ℕ, ◌<◌, true, List, length, Option, Some, sym, subst, ◌∙◌, arith, is_held, Free, Held, user_at, PolicyShape, flow_at}
use Rattle.wf_board.proofs.Common.{problem_of, IsWithin, Problem, none_not_some, CaseShape, assigned_of, finished_case, fresh_case, state_at, with_phase}
use Rattle.wf_board.proofs.Common.{with_state, assigned_of-finish, assigned_of-hold, assigned_of-release, IsOfPolicy}
use Rattle.std.proofs.lemmas.List.{length-replicate, length-set}
use Rattle.wf_names.specs.declared.states.Phase.{Phase}
use Rattle.wf_board.proofs.Valid.{fresh_user, less_given}
use Rattle.wf_board.proofs.Within.{claimed_within}

-- what is given less is within the same
within_fewer : (q : Problem) (a b : List (Option ℕ)) → ((s u : ℕ) → user_at b s ≡ Some u → user_at a s ≡ Some u) → IsWithin q a → IsWithin q b
within_fewer q a b fewer within = grind arith

pub of_policy_fresh : (p : PolicyShape) (f : ℕ) → f < length p.flows → IsOfPolicy p (fresh_case f (length (flow_at p f).flow.steps))
of_policy_fresh p f known =
    let steps = length (flow_at p f).flow.steps in
    record {
      flow = known;
      steps = length-replicate steps Free;
      users = record {
        steps = λ s u is. none_not_some u (sym (fresh_user f steps s) ∙ is);
        users = λ s u is. none_not_some u (sym (fresh_user f steps s) ∙ is);
      };
    }

pub of_policy_claimed : (p : PolicyShape) (c : CaseShape) (t u : ℕ) → t < length c.states → u < length p.roster.users → IsOfPolicy p c →
    IsOfPolicy p (with_state c t (Held u))
of_policy_claimed p c t u below user known = record {
  flow = known.flow;
  steps = length-set c.states t (Held u) ∙ known.steps;
  users = subst (IsWithin (problem_of p c.flow)) (sym (assigned_of-hold c t u below)) (claimed_within p c t u known below user known.users);
}

pub of_policy_finished : (p : PolicyShape) (c : CaseShape) (t : ℕ) → is_held (state_at c t) ≡ true → IsOfPolicy p c → IsOfPolicy p (finished_case c t)
of_policy_finished p c t held known = grind (arith, length-set, assigned_of-finish)

pub of_policy_freed : (p : PolicyShape) (c : CaseShape) (t : ℕ) → is_held (state_at c t) ≡ true → IsOfPolicy p c → IsOfPolicy p (with_state c t Free)
of_policy_freed p c t held known = record {
  flow = known.flow;
  steps = length-set c.states t Free ∙ known.steps;
  users = within_fewer (problem_of p c.flow) (assigned_of c) (assigned_of (with_state c t Free))
      (λ s u is. less_given (assigned_of c) t s u (subst (λ a. user_at a s ≡ Some u) (assigned_of-release c t held) is)) known.users;
}

pub of_policy_in_phase : (p : PolicyShape) (c : CaseShape) (phase : Phase) → IsOfPolicy p c → IsOfPolicy p (with_phase c phase)
of_policy_in_phase p c phase known = record { flow = known.flow; steps = known.steps; users = known.users }
