use Rattle.std.proofs.Common.{◌≡◌, ◌++◌, drop}
use Rattle.cnf_export.specs.Saying.{rules_flags}
use Rattle.cnf_export.proofs.saying.Planned.say_rules.Given as goal

abbrev pub invariant-rules : goal.invariant-rules
invariant-rules l = l.into ++ rules_flags l.self.users l.self.plan.now (drop l.k l.rules) ≡ l.fn.into ++ rules_flags l.self.users l.self.plan.now l.rules
