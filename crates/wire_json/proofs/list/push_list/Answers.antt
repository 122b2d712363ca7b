use Rattle.wire_json.proofs.Texts.{added_2, item_added, items_begun, items_ended}
use Rattle.wire_json.proofs.list.push_list.Goals as goal

pub items-init : goal.items-init
items-init g c = items_begun _ _ _ c.in_ok-push.ensures

pub items-preserved : goal.items-preserved
items-preserved g c = item_added (g.T.Item.item_data c.args.p.now) c.args.items.now c.items.item-index c.item-item.result _ _ _ c.items.later c.items-test.true
    c.item-item.is (added_2 _ _ _ _ _ c.in_ok-push_comma.ensures c.in_ok-push_item.ensures) c.items.invariant

pub returns : goal.returns
returns g c = items_ended (g.T.Item.item_data c.args.p.now) c.args.items.now c.items.item-index _ _ _ c.items.later c.items-test.false
    c.in_ok-push-2.ensures c.items.invariant
