use Rattle.std.proofs.Common.{◌≡◌, drop}
use Rattle.constraint_forms.specs.Assign.{user_at}
use Rattle.policy_book.specs.Policies.{flow_at, problem_of}
use Rattle.admin_edits.specs.ClaimCauses.{first_falsified}
use Rattle.admin_edits.proofs.claim_cause.first_falsified.Given as goal

abbrev pub invariant-rules : goal.invariant-rules
invariant-rules l =
    first_falsified (problem_of l.p l.fn.f).related (user_at l.a) l.k (drop l.k l.rules)
    ≡ first_falsified (problem_of l.p l.fn.f).related (user_at l.a) 0 (flow_at l.p l.fn.f).rules
