use Rattle.std.proofs.Common.{ℕ, Bool, ◌≡◌, ◌<◌, true, sym, ap, length, arith}
use Rattle.std.specs.Prelude.{slice_get}
use Rattle.policy_book.specs.Policies.{flow_at}
use Rattle.policy_book.proofs.Counting.{any_below-at}
use Rattle.wf_board.specs.Breaking.{is_broken_over}
use Rattle.wf_board.proofs.breaking.breaks_rule.Goals as goal

pub returns-then-is_broken : goal.returns-then-is_broken
returns-then-is_broken c =
    let rules = (flow_at c.args.after.now c.args.f).rules in
    let below : c.rules.k < length rules = omega (arith, c.rules-test.true, c.len-k-end.ensures, ap length c.rules-2.ensures.rules) in
    let test : ℕ → Bool = λ k. is_broken_over c.args.relations.now c.args.after.now c.args.rho c.args.plan.now (slice_get rules k) in
    let is : test c.rules.k ≡ true = rw (c.if-is_broken.ensures) in
    sym (any_below-at (length rules) c.rules.k test below is)
