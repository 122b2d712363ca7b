use Rattle.std.proofs.Common.{◌≡◌, drop}
use Rattle.std.specs.List.{list_all}
use Rattle.serde_json.specs.View.{items_view}
use Rattle.wf_commands.specs.Input.{is_text, listed_items}
use Rattle.wf_commands.proofs.input.are_texts.Given as goal

abbrev pub invariant-texts : goal.invariant-texts
invariant-texts l = list_all is_text (listed_items (items_view (drop l.item-index l.items))) ≡ list_all is_text (listed_items (items_view l.items))
