use Rattle.std.proofs.Common.{◌≡◌, ◌<◌, ℕ, length, Some}
use Rattle.wf_names.specs.declared.limits.TheConstants.{STEP_LIMIT}
use Rattle.constraint_forms.specs.Assign.{user_at}
use Rattle.policy_book.specs.Course.{problem_in}
use Rattle.story_words.proofs.held.is_within.Given as goal

abbrev pub invariant-steps : goal.invariant-steps
invariant-steps l =
    ((t : ℕ) → t < l.s → (u : ℕ) → user_at l.a t ≡ Some u → (t < (problem_in l.course).steps) × (u < (problem_in l.course).users))
    × (0 < l.s → length l.a ≡ STEP_LIMIT)
