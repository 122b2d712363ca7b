use Rattle.std.proofs.Common.{◌∙◌, ◌+◌, ◌++◌, ◌∷◌, [], ℕ, ap, arith}
use Rattle.std.proofs.Common.{◌*◌, length}
use Rattle.cnf_export.specs.Models.{last_below}
use Rattle.cnf_export.specs.Saying.{has_variable}
use Rattle.cnf_export.proofs.Grids.{next_mapped, one_longer}
use Rattle.cnf_export.proofs.reading.plan_said.Goals as goal

pub steps-preserved : goal.steps-preserved
steps-preserved c =
    let n = c.user_count-users.result in
    let f = λ (s : ℕ). last_below n (λ u. has_variable c.args.m.now (s * n + u)) in
    let count = c.steps.invariant.count in
    let pushed = c.in_ok-push.ensures.pushed ∙ ap (λ v. c.steps.chosen ++ v ∷ []) c.last_seen.ensures in
    let longer = ap length pushed ∙ one_longer c.steps.chosen (f c.steps.s) in
    record {
      so_far = next_mapped f c.steps.chosen c.push.new.self c.steps.s c.step_count-steps.result (omega (arith, c.steps-test.true)) pushed ∙
          c.steps.invariant.so_far;
      count = omega (arith, count, longer);
    }
