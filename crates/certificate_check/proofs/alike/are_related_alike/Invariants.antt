use Rattle.std.proofs.Common.{◌≡◌, true, slice_get}
use Rattle.policy_book.specs.Policies.{problem_of}
use Rattle.policy_book.specs.Laws.Twins.{all_below, is_rule_alike}
use Rattle.certificate_check.proofs.alike.are_related_alike.Given as goal

abbrev pub invariant-rules : goal.invariant-rules
invariant-rules l = all_below l.k (λ k. is_rule_alike (problem_of l.p l.fn.f) l.u l.v (slice_get (problem_of l.p l.fn.f).rules k)) ≡ true
