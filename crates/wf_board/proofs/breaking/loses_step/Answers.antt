use Rattle.std.proofs.Common.{ℕ, Bool, ◌≡◌, ◌==◌, ◌&&◌, ◌<◌, true, sym, length, arith}
use Rattle.constraint_forms.specs.Assign.{planned}
use Rattle.policy_book.proofs.Counting.{any_below-at}
use Rattle.wf_board.specs.Breaking.{is_barred}
use Rattle.wf_board.proofs.breaking.loses_step.Goals as goal

pub returns-then-loses_one : goal.returns-then-loses_one
returns-then-loses_one c =
    let below : c.steps.s < length c.args.plan.now = omega (arith, c.steps-test.true, c.len-s-end.ensures.count) in
    let test : ℕ → Bool = λ s. (planned c.args.plan.now s == c.args.u) && is_barred c.args.after.now c.args.case.now c.args.plan.now s in
    let is : test c.steps.s ≡ true = rw (c.if-loses_one.ensures) in
    sym (any_below-at (length c.args.plan.now) c.steps.s test below is)
