use Rattle.policy_reader.proofs.Prints.{sym, ap, ◌∙◌, ◌++◌, ◌∷◌, [], ◌≡◌, Some, subst, arith, slice_get, slice_get_within, Rule, rule_data, HasFlags}
use Rattle.policy_reader.proofs.Writing.{map_take_got, one_further, all_written}
use Rattle.policy_reader.proofs.RuleLists.{same_rule}
use Rattle.policy_reader.proofs.printed_flows.rules_value.Goals as goal

pub push_rule-requires-clause-sound : goal.push_rule-requires-clause-sound
push_rule-requires-clause-sound c = c.requires.sound c.rules.k c.get.result.now c.get.ensures

pub rules-preserved : goal.rules-preserved
rules-preserved c =
    let f = rule_data c.args.relations.now c.args.steps.now.names in (
      c.in_ok-push_rule.ensures.pushed ∙ ap (λ xs. xs ++ f c.get.result.now ∷ []) c.rules.invariant.0 ∙
          sym (map_take_got f c.args.rules.now c.rules.k c.get.result.now c.get.ensures),
      one_further (λ m. (rule : Rule) → slice_get c.args.rules.now m ≡ Some rule → HasFlags rule) c.rules.k c.rules.invariant.1
          (λ rule e. subst (λ r. HasFlags r) (same_rule c.get.result.now rule (sym c.get.ensures ∙ e)) c.in_ok-push_rule.ensures.flags),
    )

pub returns-clause-value : goal.returns-clause-value
returns-clause-value c = all_written (rule_data c.args.relations.now c.args.steps.now.names) c.rules.values c.rules.k c.args.rules.now c.rules.invariant.0
    (omega (arith, c.rules-test.false, c.len-k-end.ensures))

pub returns-clause-flags : goal.returns-clause-flags
returns-clause-flags c k rule e =
    c.rules.invariant.1 k (omega (arith, slice_get_within c.args.rules.now k rule e, c.rules-test.false, c.len-k-end.ensures)) rule e
