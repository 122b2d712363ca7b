use Rattle.std.proofs.Common.{◌≡◌, ◌-◌, length, slice_get}
use Rattle.policy_book.specs.Course.{problem_in}
use Rattle.certificate_check.specs.Plan.{first_failing, is_obeyed}
use Rattle.certificate_check.proofs.plan.first_disobeyed.Given as goal

abbrev pub invariant-rules : goal.invariant-rules
invariant-rules l =
    first_failing (λ k. is_obeyed (problem_in l.course) l.plan (slice_get (problem_in l.course).rules k)) l.k (length (problem_in l.course).rules - l.k)
    ≡ first_failing (λ k. is_obeyed (problem_in l.course) l.plan (slice_get (problem_in l.course).rules k)) 0 (length (problem_in l.course).rules)
