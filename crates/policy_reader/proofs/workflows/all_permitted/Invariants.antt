use Rattle.policy_reader.proofs.Words.{◌≡◌, drop, length, items_view, each, HasPermitted, items, next_permitted}
use Rattle.policy_reader.proofs.workflows.all_permitted.Given as goal

abbrev pub invariant-items : goal.invariant-items
invariant-items l =
    (each (next_permitted l.roles.flow l.roles.names.now.names l.s) l.made (items (items_view (drop l.value-index l.items))) ≡ each
    (next_permitted l.roles.flow l.roles.names.now.names l.s) l.fn.made (items (items_view l.items)))
    × HasPermitted (length l.roles.names.now.names) l.fn.made l.made
