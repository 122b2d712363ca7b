use Rattle.policy_reader.proofs.Words.{◌≡◌, ◌+◌, drop, length, items_view, ROLE_LIMIT, each, items, next_role}
use Rattle.policy_reader.proofs.rosters.all_roles.Given as goal

abbrev pub invariant-items : goal.invariant-items
invariant-items l =
    (each next_role l.roles.names (items (items_view (drop l.value-index l.items))) ≡ each next_role l.fn.roles.names (items (items_view l.items)))
    × (l.roles.limit ≡ ROLE_LIMIT)
    × (length l.roles.names ≡ length l.fn.roles.names + l.value-index)
