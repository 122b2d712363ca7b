use Rattle.std.proofs.Common.{◌∙◌, ◌++◌, ◌∷◌, [], ap, arith}
use Rattle.cnf_export.proofs.Grids.{next_mapped}
use Rattle.cnf_export.proofs.saying.say_each.Goals as goal

pub numbers-preserved : goal.numbers-preserved
numbers-preserved g c = λ said says.
    next_mapped said c.numbers.into c.push.new.self c.numbers.k c.args.n (omega (arith, c.numbers-test.true))
    (c.in_ok-push.ensures.pushed ∙ ap (λ b. c.numbers.into ++ b ∷ []) (says c.numbers.k (omega (arith, c.numbers-test.true)) c.test.result c.test.ensures)) ∙
    c.numbers.invariant said says
