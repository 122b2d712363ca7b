use Rattle.std.proofs.Common.{◌≡◌, ◌∙◌, ◌+◌, ◌-◌, ◌++◌, ℕ, suc, nat_lt, cond, map, sym, ap, arith}
use Rattle.cnf_export.specs.Laws.Encodings.{numbers}
use Rattle.std.specs.List.{flat_map}
use Rattle.wf_names.specs.UserSets.{count_below}
use Rattle.cnf_export.specs.Models.{has_some}
use Rattle.cnf_export.proofs.Listing.{next_number}
use Rattle.constraint_forms.proofs.Walking.{at_most_one}
use Rattle.cnf_export.proofs.Grids.{count_next, count_none}
use Rattle.cnf_export.proofs.saying.Planned.say_counts.Goals as goal

pub users-init : goal.users-init
users-init c =
    let test = has_some c.args.group.now c.args.self.now.plan.now in
    let f = λ (u : ℕ). map (λ j. nat_lt j (count_below (suc u) test)) (numbers 0 c.args.high) in
    let all : c.args.self.now.users - 0 ≡ c.args.self.now.users = omega arith in
    record {
      so_far = ap (λ n. c.args.into.now ++ flat_map f (numbers 0 n)) all;
      counted = sym (count_none test);
      few = omega arith;
    }

pub users-preserved : goal.users-preserved
users-preserved c =
    let test = has_some c.args.group.now c.args.self.now.plan.now in
    let f = λ (u : ℕ). map (λ j. nat_lt j (count_below (suc u) test)) (numbers 0 c.args.high) in
    let u = c.users.u in
    let next : suc u ≡ u + 1 = omega arith in
    let more = c.count_on-count.ensures in
    let counted : c.count_on-count.result ≡ count_below (suc u) test =
    more ∙ ap (λ n. n + cond c.takes_some.result 1 0) c.users.invariant.counted ∙ ap (λ b. count_below u test + cond b 1 0) c.takes_some.ensures ∙
    sym (count_next test u) in
    record {
      so_far = next_number f c.users.into c.say_below.new.into u c.args.self.now.users (omega (arith, c.users-test.true))
          (c.in_ok-say_below.ensures ∙ ap (λ n. c.users.into ++ map (λ j. nat_lt j n) (numbers 0 c.args.high)) counted) ∙ c.users.invariant.so_far;
      counted = counted ∙ ap (λ n. count_below n test) next;
      few = omega (arith, c.users.invariant.few, at_most_one c.takes_some.result, more);
    }
