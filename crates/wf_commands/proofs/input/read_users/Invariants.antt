use Rattle.std.proofs.Common.{◌≡◌, [], drop, length}
use Rattle.serde_json.specs.View.{items_view}
use Rattle.basics.specs.Laws.Reading.{each}
use Rattle.wf_commands.specs.Input.{next_in_plan, listed_items, AreAmong}
use Rattle.wf_commands.proofs.input.read_users.Given as goal

abbrev pub invariant-users : goal.invariant-users
invariant-users l = record {
  read : each (next_in_plan l.p) l.users.items (listed_items (items_view (drop l.item-index l.items)))
      ≡ each (next_in_plan l.p) [] (listed_items (items_view l.items));
  whole : length l.users.items ≡ l.item-index;
  known : AreAmong (length l.p.roster.users) l.users.items;
}
