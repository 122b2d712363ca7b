use Rattle.std.proofs.Common.{◌==◌, of_calls}
use Rattle.cnf_export.proofs.saying.say_user.Goals as goal

pub returns : goal.returns
returns c = c.say_each.ensures (λ u. c.args.v == u) (λ k below b said. search of_calls)
