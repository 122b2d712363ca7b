use Rattle.std.proofs.Common.{nat_lt, of_calls}
use Rattle.cnf_export.proofs.saying.say_below.Goals as goal

pub returns : goal.returns
returns c = c.say_each.ensures (λ j. nat_lt j c.args.count) (λ k below b said. search of_calls)
