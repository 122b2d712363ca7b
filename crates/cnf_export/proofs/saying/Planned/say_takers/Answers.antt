use Rattle.std.proofs.Common.{of_calls}
use Rattle.cnf_export.specs.Models.{has_some}
use Rattle.cnf_export.proofs.saying.Planned.say_takers.Goals as goal

pub returns : goal.returns
returns c = c.say_each.ensures (has_some c.args.group.now c.args.self.now.plan.now) (λ k below b said. search of_calls)
