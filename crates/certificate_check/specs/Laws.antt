-- What a refuting tree shows, which of its steps it needs, and that twins can be exchanged.
use Rattle.std.specs.Prelude.{◌≡◌, ◌<◌, ◌↔◌, Bool, false, List, length, ℕ, Option, None, Some}
use Rattle.std.specs.Prelude.{IsTrue, slice_set}
use Rattle.constraint_forms.specs.Assign.{user_at}
use Rattle.refutation_tree.specs.Tree.{Shape}
use Rattle.policy_book.specs.Laws.Plans.{Problem, AreAssigned, IsCompletable, IsWellFormed}
use Rattle.policy_book.specs.Laws.Refuting.{refutes, mentions}
use Rattle.policy_book.specs.Laws.Twins.{are_twins}

-- what a tree refutes cannot be completed, where the rules name steps of the workflow and each
-- finished step is assigned
abbrev pub RefutesSoundly : Type 0
RefutesSoundly =
    (p : Problem) (assigned : List (Option ℕ)) (finished : List Bool) (tree : Shape) →
    IsWellFormed p → AreAssigned finished assigned →
    IsTrue (refutes p assigned finished tree) → ¬ IsCompletable p assigned finished

-- a tree that refutes once a step is given to a user, and does not mention the step, refutes
-- without it
abbrev pub UnmentionedStepDrops : Type 0
UnmentionedStepDrops =
    (p : Problem) (assigned : List (Option ℕ)) (finished : List Bool) (s u : ℕ) (tree : Shape) →
    s < length assigned → user_at assigned s ≡ None → mentions p.rules s tree ≡ false →
    IsTrue (refutes p (slice_set assigned s (Some u)) finished tree) →
    IsTrue (refutes p assigned finished tree)

-- which of two twins a step is given to does not matter to whether the rest can be completed
abbrev pub TwinsExchange : Type 0
TwinsExchange =
    (p : Problem) (assigned : List (Option ℕ)) (finished : List Bool) (s u v : ℕ) →
    IsWellFormed p → s < p.steps → s < length assigned → u < p.users → v < p.users →
    IsTrue (are_twins p assigned u v) →
    IsCompletable p (slice_set assigned s (Some u)) finished ↔
    IsCompletable p (slice_set assigned s (Some v)) finished

-- a twin of a twin is a twin
abbrev pub TwinsChain : Type 0
TwinsChain =
    (p : Problem) (assigned : List (Option ℕ)) (u v w : ℕ) → u < p.users → v < p.users →
    w < p.users →
    IsTrue (are_twins p assigned u v) → IsTrue (are_twins p assigned v w) →
    IsTrue (are_twins p assigned u w)
