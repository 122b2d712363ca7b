use Rattle.std.proofs.Common.{◌≡◌, ◌+◌, ◌*◌, ◌-◌, ◌++◌, length, map}
use Rattle.cnf_export.specs.Laws.Encodings.{numbers}
use Rattle.cnf_export.specs.Models.{last_below}
use Rattle.cnf_export.specs.Saying.{has_variable}
use Rattle.cnf_export.proofs.reading.plan_said.Given as goal

-- the users of the steps so far, and of those to come
abbrev pub invariant-steps : goal.invariant-steps
invariant-steps l = record {
  so_far : l.chosen ++ map (λ s. last_below l.users (λ u. has_variable l.m (s * l.users + u))) (numbers l.s (l.steps - l.s))
      ≡ map (λ s. last_below l.users (λ u. has_variable l.m (s * l.users + u))) (numbers 0 l.steps);
  count : length l.chosen ≡ l.s;
}
