use Rattle.policy_reader.proofs.Words.{◌≡◌, drop, length, [], items_view, each, AreSoundRules, items, next_rule}
use Rattle.policy_reader.proofs.rules.all_rules.Given as goal

abbrev pub invariant-items : goal.invariant-items
invariant-items l =
    (each (next_rule l.format l.scope.flow l.scope.relations.now l.scope.steps.now.names) l.rules (items (items_view (drop l.value-index l.items))) ≡ each
    (next_rule l.format l.scope.flow l.scope.relations.now l.scope.steps.now.names) [] (items (items_view l.items)))
    × AreSoundRules (length l.scope.steps.now.names) (length l.scope.relations.now) l.rules
    × (length l.rules ≡ l.value-index)
