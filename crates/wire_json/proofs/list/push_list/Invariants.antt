use Rattle.std.proofs.Common.{◌≡◌, ◌++◌, drop}
use Rattle.std.specs.Prelude.{map}
use Rattle.serde_json.specs.Data.{array}
use Rattle.serde_json.specs.View.{items_of}
use Rattle.serde_json.specs.Written.{compact_text, items_text}
use Rattle.wire_json.proofs.list.push_list.Given as goal

abbrev pub invariant-items : goal.invariant-items
invariant-items g l =
    l.out.items ++ items_text l.later (items_of (map (g.T.Item.item_data l.p) (drop l.item-index l.items))) ≡ l.fn.out.items ++ compact_text
    (array (items_of (map (g.T.Item.item_data l.p) l.items)))
