use Rattle.std.proofs.Common.{◌≡◌, ap, ◌<◌, ℕ, zero, suc, List, [], ◌∷◌, length, Option, Some, is_some, arith}
use Rattle.std.proofs.lemmas.Bool.{false≢true}
use Rattle.constraint_forms.specs.Assign.{user_at}
use Rattle.policy_book.specs.Course.{problem_in}
use Rattle.story_words.proofs.held.is_within.Goals as goal

assigned_within : (a : List (Option ℕ)) (s u : ℕ) → user_at a s ≡ Some u → s < length a
assigned_within [] s u is = absurd (false≢true (ap is_some is))
assigned_within (x ∷ xs) zero u is = omega arith
assigned_within (x ∷ xs) (suc s) u is = omega (arith, assigned_within xs s u is)

pub returns : goal.returns
returns c told = record { steps = λ s u is. (known s u is).0; users = λ s u is. (known s u is).1 }
  where
    below : (s u : ℕ) → user_at c.args.a.now s ≡ Some u → s < c.steps.s
    below s u is =
        omega (arith, assigned_within c.args.a.now s u is, c.steps.invariant.1 (omega (arith, c.steps-test.false)), c.steps-test.false)

    known : (s u : ℕ) → user_at c.args.a.now s ≡ Some u → (s < (problem_in c.args.course.now).steps) × (u < (problem_in c.args.course.now).users)
    known s u is = c.steps.invariant.0 s (below s u is) u is
