use Rattle.std.proofs.Common.{◌≡◌, ◌<◌, ℕ, IsTrue, is_some}
use Rattle.constraint_forms.specs.Assign.{is_member, user_at}
use Rattle.story_words.proofs.held.are_given.Given as goal

abbrev pub invariant-steps : goal.invariant-steps
invariant-steps l =
    (t : ℕ) → t < l.s → IsTrue (is_member l.done t) → IsTrue (is_some (user_at l.a t))
