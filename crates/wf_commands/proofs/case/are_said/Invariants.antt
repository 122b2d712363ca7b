use Rattle.std.proofs.Common.{◌≡◌, drop}
use Rattle.std.specs.List.{list_all}
use Rattle.serde_json.specs.View.{items_view}
use Rattle.wf_commands.specs.Input.{listed_items}
use Rattle.wf_commands.specs.Cases.{is_said}
use Rattle.wf_commands.proofs.case.are_said.Given as goal

abbrev pub invariant-items : goal.invariant-items
invariant-items l = list_all (is_said l.p) (listed_items (items_view (drop l.item-index l.items))) ≡ list_all (is_said l.p) (listed_items (items_view l.items))
