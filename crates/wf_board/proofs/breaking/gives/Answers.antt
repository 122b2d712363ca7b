use Rattle.std.proofs.Common.{ℕ, Bool, ◌≡◌, ◌==◌, ◌<◌, true, sym, ap, length, ◌∙◌, arith}
use Rattle.constraint_forms.specs.Assign.{planned}
use Rattle.policy_book.proofs.Counting.{any_below-at}
use Rattle.wf_board.proofs.breaking.gives.Goals as goal

pub returns-then-eq : goal.returns-then-eq
returns-then-eq c =
    let below : c.steps.s < length c.args.plan.now = omega (arith, c.steps-test.true, c.len-s-end.ensures.count) in
    let test : ℕ → Bool = λ s. planned c.args.plan.now s == c.args.u in
    let is : test c.steps.s ≡ true = ap (λ (n : ℕ). n == c.args.u) (sym c.at.ensures) ∙ sym c.eq.ensures ∙ c.if-eq.true in
    sym (any_below-at (length c.args.plan.now) c.steps.s test below is)
