use Rattle.std.proofs.Common.{nat_le, of_calls}
use Rattle.cnf_export.proofs.saying.say_from.Goals as goal

pub returns : goal.returns
returns c = c.say_each.ensures (λ u. nat_le c.args.v u) (λ k below b said. search of_calls)
