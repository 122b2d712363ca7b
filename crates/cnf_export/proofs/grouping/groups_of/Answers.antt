use Rattle.std.proofs.Common.{◌∙◌, ◌+◌, ◌++◌, drop, sym, ap, arith, append_assoc}
use Rattle.cnf_export.specs.Laws.Encodings.{blocks, rule_groups, rules_groups}
use Rattle.cnf_export.proofs.Listing.{drop_some, some_same}
use Rattle.cnf_export.proofs.grouping.groups_of.Goals as goal

pub rules-preserved : goal.rules-preserved
rules-preserved c =
    let rule = c.get.result.now in
    let rest = drop (c.rules.k + 1) c.args.rules.now in
    let old = c.rules.made.items in
    let small = c.rules.invariant.small in
    let few = c.blocks_of-block.ensures.few in
    let same = some_same c.get-in-rules.result.now rule (sym c.get-in-rules.ensures ∙ c.get.ensures) in
    record {
      so_far =
          ap (λ gs. gs ++ rules_groups (c.rules.block + c.blocks_of-block.result) rest) c.in_ok-add_rule.ensures
          ∙ append_assoc old (rule_groups c.rules.block rule) (rules_groups (c.rules.block + c.blocks_of-block.result) rest)
          ∙ ap (λ n. old ++ (rule_groups c.rules.block rule ++ rules_groups (c.rules.block + n) rest)) (c.blocks_of-block.ensures.value ∙ ap blocks same)
          ∙ ap (λ rs. old ++ rules_groups c.rules.block rs) (sym (drop_some c.args.rules.now c.rules.k rule c.get.ensures))
          ∙ c.rules.invariant.so_far;
      small = omega (arith, small, few);
    }
