use Rattle.std.specs.Prelude.{decimal}
use Rattle.std.proofs.Common.{◌++◌, ap, ◌∙◌}
use Rattle.serde_json.specs.Written.{compact_text}
use Rattle.wire_json.specs.Entries.{step_data}
use Rattle.wire_json.proofs.Heads.{item_made}
use Rattle.wire_json.proofs.views.push_work_item.Goals as goal

pub returns : goal.returns
returns c =
    c.in_ok-push_from.ensures
    ∙ ap (λ t. c.args.out.now.items ++ t)
    (item_made _ _ _ _ (decimal c.args.item.now.case) (compact_text (step_data c.args.p.now c.args.item.now.flow c.args.item.now.step))
    c.put_byte-end.ensures.written c.put_step-step.ensures.written c.put_byte-comma.ensures.written c.put_case-case.ensures.written)
