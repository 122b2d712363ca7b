use Rattle.std.proofs.Common.{◌≡◌, ◌≢◌, ◌<◌, ◌+◌, ◌&&◌, ℕ, true, false, length, slice_get, eqb, ◌⊎◌, inl, inr, sym, ap, ◌∙◌, arith}
use Rattle.std.proofs.lemmas.Bool.Decides.{eqb_tells}
use Rattle.policy_book.specs.Course.{problem_in}
use Rattle.policy_book.specs.Laws.Refuting.{is_broken, is_rule_naming}
use Rattle.wsp_solver.proofs.Searching.{quiet_again}
use Rattle.wsp_solver.proofs.leaf.falsified_with.Goals as goal

pub rules-preserved : goal.rules-preserved
rules-preserved c = λ j below. at j below (eqb_tells j c.rules.k)
  where
    at : (j : ℕ) → j < c.rules.k + 1 → ((eqb j c.rules.k ≡ true) × (j ≡ c.rules.k)) ⊎
        ((eqb j c.rules.k ≡ false) × (j ≢ c.rules.k)) → (is_rule_naming c.args.s (slice_get (problem_in c.args.course.now).rules j) &&
        is_broken (problem_in c.args.course.now) c.args.a.now (slice_get (problem_in c.args.course.now).rules j)) ≡ false
    at j below (inl same) = ap (λ x. is_rule_naming c.args.s (slice_get (problem_in c.args.course.now).rules x) && is_broken
        (problem_in c.args.course.now) c.args.a.now (slice_get (problem_in c.args.course.now).rules x)) same.1 ∙ sym c.if-is_falsified_with.ensures
    at j below (inr other) = c.rules.invariant j (omega (arith, below, other.1))

pub returns : goal.returns
returns c =
    let known = c.len-k-end.ensures ∙ ap length c.rules-2.ensures.rules in
    quiet_again (problem_in c.args.course.now) c.args.a.now c.args.done.now c.args.s c.requires
    (λ k below. c.rules.invariant k (omega (arith, below, known, c.rules-test.false)))
