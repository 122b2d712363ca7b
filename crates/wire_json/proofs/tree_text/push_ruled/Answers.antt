use Rattle.std.specs.Prelude.{codes, decimal}
use Rattle.std.proofs.Common.{◌++◌, refl, ap, ◌∙◌, arith}
use Rattle.serde_json.specs.Written.{comma_if, compact_text}
use Rattle.wire_json.specs.Entries.{named}
use Rattle.wire_json.proofs.Heads.{leaf_made, whole_rest}
use Rattle.wire_json.proofs.tree_text.push_ruled.Goals as goal

pub returns : goal.returns
returns c =
    c.in_ok-push.ensures
    ∙ ap (λ t. c.args.out.now.items ++ t)
    (whole_rest _ c.put_front-start.result c.put_front-start.new.cells (omega arith)
    ∙ leaf_made _ _ _ _ (codes "{\"rule\":") (decimal c.args.k) (compact_text (named c.args.front.now.users.now.names c.args.front.now.user))
    (comma_if c.args.front.now.later) refl c.put_bytes-end.ensures.written c.put_number-rule.ensures.written
    c.put_front-start.ensures.written)
