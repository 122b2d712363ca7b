use Rattle.std.proofs.Common.{◌≡◌, ◌-◌, ◌++◌, nat_le, map}
use Rattle.std.specs.List.{flat_map}
use Rattle.cnf_export.specs.Laws.Encodings.{numbers}
use Rattle.constraint_forms.specs.Assign.{planned}
use Rattle.cnf_export.proofs.saying.Planned.say_until.Given as goal

abbrev pub invariant-steps : goal.invariant-steps
invariant-steps l =
    l.into ++ flat_map (λ s. map (λ u. nat_le (planned l.self.plan.now s) u) (numbers 0 l.self.users)) (numbers l.s (l.steps - l.s))
    ≡ l.fn.into ++ flat_map (λ s. map (λ u. nat_le (planned l.self.plan.now s) u) (numbers 0 l.self.users)) (numbers 0 l.steps)
