use Rattle.std.proofs.Common.{◌≡◌, ℕ, ◌&&◌, not, Some, slice_get, slice_set}
use Rattle.wf_names.specs.UserSets.{has_user}
use Rattle.policy_book.specs.Policies.{problem_of}
use Rattle.policy_book.specs.Laws.Refuting.{is_broken}
use Rattle.policy_book.specs.Laws.Twins.{all_below}
use Rattle.policy_book.proofs.candidates.keep_unbroken.Given as goal

abbrev pub invariant-rules : goal.invariant-rules
invariant-rules l = (u : ℕ) → has_user l.users u ≡ (has_user l.fn.users u &&
    all_below l.k (λ k. not (is_broken (problem_of l.p l.f) (slice_set l.a l.s (Some u)) (slice_get (problem_of l.p l.f).rules k))))
