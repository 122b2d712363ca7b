use Rattle.policy_reader.proofs.Words.{◌≡◌, drop, items_view, each, items, next_held}
use Rattle.policy_reader.proofs.rosters.all_held.Given as goal

abbrev pub invariant-items : goal.invariant-items
invariant-items l =
    (each (next_held l.u) l.roster (items (items_view (drop l.value-index l.items))) ≡ each (next_held l.u) l.fn.roster (items (items_view l.items))) ×
    (l.roster.users ≡ l.fn.roster.users) × (l.roster.roles ≡ l.fn.roster.roles)
