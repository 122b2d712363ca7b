use Rattle.policy_reader.proofs.Words.{◌≡◌, ◌<◌, drop, length, true, IsTrue, items_view, any_from, each, HasStepsBelow, items, next_member}
use Rattle.constraint_forms.specs.Assign.{no_steps}
use Rattle.policy_reader.proofs.rules.all_members.Given as goal

abbrev pub invariant-items : goal.invariant-items
invariant-items l =
    (each (next_member l.scope.flow l.scope.steps.now.names) l.group (items (items_view (drop l.value-index l.items))) ≡ each
    (next_member l.scope.flow l.scope.steps.now.names) no_steps (items (items_view l.items)))
    × HasStepsBelow (length l.scope.steps.now.names) l.group
    × (0 < l.value-index → IsTrue (any_from 0 l.group (λ _. true)))
