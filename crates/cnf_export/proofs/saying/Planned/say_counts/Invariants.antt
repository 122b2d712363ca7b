use Rattle.std.proofs.Common.{◌≡◌, ◌≤◌, ◌-◌, ◌++◌, suc, nat_lt, map}
use Rattle.std.specs.List.{flat_map}
use Rattle.wf_names.specs.UserSets.{count_below}
use Rattle.cnf_export.specs.Laws.Encodings.{numbers}
use Rattle.cnf_export.specs.Models.{has_some}
use Rattle.cnf_export.proofs.saying.Planned.say_counts.Given as goal

abbrev pub invariant-users : goal.invariant-users
invariant-users l = record {
  so_far : l.into ++ flat_map (λ u. map (λ j. nat_lt j (count_below (suc u) (has_some l.group l.self.plan.now))) (numbers 0 l.high))
      (numbers l.u (l.self.users - l.u))
      ≡ l.fn.into ++ flat_map (λ u. map (λ j. nat_lt j (count_below (suc u) (has_some l.group l.self.plan.now))) (numbers 0 l.high))
      (numbers 0 l.self.users);
  counted : l.count ≡ count_below l.u (has_some l.group l.self.plan.now);
  few : l.count ≤ l.u;
}
