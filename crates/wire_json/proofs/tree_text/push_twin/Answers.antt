use Rattle.std.specs.Prelude.{codes}
use Rattle.std.proofs.Common.{◌++◌, drop, refl, ap, ◌∙◌, arith}
use Rattle.serde_json.specs.Written.{comma_if, compact_text}
use Rattle.wire_json.specs.Entries.{named}
use Rattle.wire_json.proofs.Heads.{leaf_made, whole_rest}
use Rattle.wire_json.proofs.tree_text.push_twin.Goals as goal

pub returns : goal.returns
returns c =
    c.in_ok-push.ensures
    ∙ ap (λ t. c.args.out.now.items ++ t)
    (whole_rest _ c.put_front-start.result c.put_front-start.new.cells (omega arith)
    ∙ leaf_made _ _ _ _ (codes "{\"twin\":") (compact_text (named c.args.front.now.users.now.names c.args.twin))
    (compact_text (named c.args.front.now.users.now.names c.args.front.now.user)) (comma_if c.args.front.now.later) refl
    c.put_bytes-end.ensures.written
    (c.put_bytes-leaf.ensures.written
    ∙ ap (λ t. codes ",{\"twin\":" ++ t)
    (c.put_quoted-name.ensures.written
    ∙ ap (λ n. compact_text (named c.args.front.now.users.now.names n) ++ drop c.put_bytes-end.result c.put_bytes-end.new.cells) c.twin.view_is))
    c.put_front-start.ensures.written)
