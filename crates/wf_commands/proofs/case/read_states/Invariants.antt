use Rattle.std.proofs.Common.{◌≡◌, drop, length}
use Rattle.serde_json.specs.View.{items_view}
use Rattle.basics.specs.Laws.Reading.{each}
use Rattle.wf_commands.specs.Input.{listed_items}
use Rattle.wf_commands.specs.Cases.{next_said, no_case, IsCaseSoFar}
use Rattle.wf_commands.proofs.case.read_states.Given as goal

abbrev pub invariant-items : goal.invariant-items
invariant-items l = record {
  read : each (next_said l.p) l.c (listed_items (items_view (drop l.item-index l.items))) ≡ each (next_said l.p) no_case (listed_items (items_view l.items));
  said : l.c.said ≡ l.item-index;
  sound : IsCaseSoFar (length l.p.roster.users) l.c;
}
