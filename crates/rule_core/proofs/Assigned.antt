-- The facts of how far a case has come.
use Rattle.std.proofs.Common.{◌≡◌, refl, ℕ, true, Option, None, Some, is_some}
use Rattle.std.proofs.lemmas.Bool.{false≢true}
use Rattle.constraint_forms.specs.Assign.{user_at}
use Rattle.policy_book.specs.Laws.Plans.{AreAssigned}
use Rattle.rule_core.specs.declared.progress.Progress.{Progress}

given : (o : Option ℕ) → is_some o ≡ true → (u : ℕ) × (o ≡ Some u)
given None some = absurd (false≢true some)
given (Some u) some = (u, refl)

-- each finished step has a user
pub assigned_in : (c : Progress) → AreAssigned c.done.now c.users.now
assigned_in c s done = given (user_at c.users.now s) (c.assigned s done)
