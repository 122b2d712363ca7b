use Rattle.std.proofs.Common.{◌≡◌, ℕ, ◌<◌, get_or}
use Rattle.wf_names.specs.declared.states.StepState.TheVariants.{Free}
use Rattle.case_views.proofs.seen.are_alike.Given as goal

-- the states so far are the same
abbrev pub invariant-states : goal.invariant-states
invariant-states l = (k : ℕ) → k < l.i → get_or l.xs k Free ≡ get_or l.ys k Free
