-- Which users a step may be given to.
use Rattle.std.specs.Prelude.{ℕ, Bool, not, ◌&&◌, nat_lt, List, length, Option, Some, slice_get}
use Rattle.std.specs.Prelude.{slice_set}
use Rattle.policy_book.specs.Laws.Plans.{Problem}
use Rattle.policy_book.specs.Laws.Refuting.{is_broken}
use Rattle.policy_book.specs.Laws.Twins.{all_below}

-- an assignment falsifies no rule
abbrev pub breaks_none : Problem → List (Option ℕ) → Bool
breaks_none p assigned =
    all_below (length p.rules) (λ k. not (is_broken p assigned (slice_get p.rules k)))

-- a user who is authorised for a step, and to whom it can be given without falsifying a rule
abbrev pub is_candidate : Problem → List (Option ℕ) → ℕ → ℕ → Bool
is_candidate p assigned s u =
    nat_lt u p.users && (p.authorised s u && breaks_none p (slice_set assigned s (Some u)))
