use Rattle.std.proofs.Common.{◌∙◌, ◌+◌, ◌++◌, drop, sym, ap, append_assoc}
use Rattle.cnf_export.proofs.Listing.{drop_some}
use Rattle.cnf_export.specs.Saying.{rule_flags, rules_flags}
use Rattle.cnf_export.proofs.saying.Planned.say_rules.Goals as goal

pub rules-preserved : goal.rules-preserved
rules-preserved c =
    let n = c.args.self.now.users in
    let plan = c.args.self.now.plan.now in
    let rest = rules_flags n plan (drop (c.rules.k + 1) c.args.rules.now) in
    ap (λ xs. xs ++ rest) c.in_ok-say_rule.ensures
    ∙ append_assoc c.rules.into (rule_flags n plan c.get.result.now) rest
    ∙ ap (λ rs. c.rules.into ++ rules_flags n plan rs) (sym (drop_some c.args.rules.now c.rules.k c.get.result.now c.get.ensures))
    ∙ c.rules.invariant
