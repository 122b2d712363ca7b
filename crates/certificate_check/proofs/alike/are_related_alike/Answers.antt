use Rattle.std.proofs.Common.{ℕ, Bool, length, slice_get, sym, ap, ◌∙◌, arith}
use Rattle.policy_book.specs.Policies.{problem_of}
use Rattle.policy_book.specs.Laws.Twins.{is_rule_alike}
use Rattle.certificate_check.proofs.Below.{each_passes, one_fails, one_more_passes}
use Rattle.certificate_check.proofs.alike.are_related_alike.Goals as goal

pub rules-preserved-then-read_before-k : goal.rules-preserved-then-read_before-k
rules-preserved-then-read_before-k c =
    let p = problem_of c.args.p.now c.args.f in
    let test : ℕ → Bool = λ k. is_rule_alike p c.args.u c.args.v (slice_get p.rules k) in
    one_more_passes c.rules.k test c.rules.invariant
    (c.read_before.ensures c.args.u c.args.v (each_passes c.rules.k test c.rules.invariant c.read_before.result (omega (arith, c.if-read_before-k.true))))

pub returns-then-not-is_rule_alike : goal.returns-then-not-is_rule_alike
returns-then-not-is_rule_alike c =
    let known = c.len-k-end.ensures ∙ ap length c.rules-2.ensures.rules in
    sym (one_fails (length (problem_of c.args.p.now c.args.f).rules) c.rules.k (λ k. is_rule_alike (problem_of c.args.p.now c.args.f) c.args.u c.args.v
    (slice_get (problem_of c.args.p.now c.args.f).rules k)) (omega (arith, known, c.rules-test.true)) (sym c.if-not-is_rule_alike.ensures))
