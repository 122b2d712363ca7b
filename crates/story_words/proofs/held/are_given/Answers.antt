use Rattle.std.proofs.Common.{◌≡◌, ◌<◌, ℕ, zero, suc, Bool, true, List, [], ◌∷◌, length, arith}
use Rattle.std.proofs.lemmas.Bool.{false≢true}
use Rattle.constraint_forms.specs.Assign.{is_member}
use Rattle.story_words.proofs.held.are_given.Goals as goal

member_within : (group : List Bool) (s : ℕ) → is_member group s ≡ true → s < length group
member_within [] s is = absurd (false≢true is)
member_within (x ∷ xs) zero is = omega arith
member_within (x ∷ xs) (suc s) is = let rest = member_within xs s is in omega (arith, rest)

pub returns : goal.returns
returns c told s is = c.steps.invariant s below is
  where
    below : s < c.steps.s
    below = omega (arith, member_within c.args.done.now s is, c.limit-limit.ensures.len, c.limit-limit.ensures.limit, c.steps-test.false)
