use Rattle.std.proofs.Common.{◌++◌, ap, ◌∙◌, arith, append-nil}
use Rattle.wire_json.proofs.Heads.{whole_rest}
use Rattle.wire_json.proofs.text.push_plan.Goals as goal

pub returns : goal.returns
returns c =
    c.in_ok-push.ensures
    ∙ ap (λ t. c.args.out.now.items ++ t)
    (whole_rest _ c.put_plan-start.result c.put_plan-start.new.cells (omega arith) ∙ c.put_plan-start.ensures.written ∙ append-nil _)
