use Rattle.policy_reader.proofs.Words.{◌≡◌, drop, length, [], items_view, STEP_LIMIT, each, Flows, items, next_name}
use Rattle.policy_reader.proofs.workflows.all_steps.Given as goal

abbrev pub invariant-items : goal.invariant-items
invariant-items l =
    (each (next_name Flows l.flow) l.steps.names (items (items_view (drop l.value-index l.items))) ≡ each (next_name Flows l.flow) []
    (items (items_view l.items)))
    × (l.steps.limit ≡ STEP_LIMIT)
    × (length l.steps.names ≡ l.value-index)
