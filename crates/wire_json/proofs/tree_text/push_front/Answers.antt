use Rattle.std.proofs.Common.{◌++◌, ◌∷◌, ap, ◌∙◌, arith}
use Rattle.serde_json.specs.Written.{comma_if, compact_text}
use Rattle.wire_json.specs.Entries.{named}
use Rattle.wire_json.proofs.Heads.{whole_rest}
use Rattle.wire_json.proofs.tree_text.push_front.Goals as goal

pub returns : goal.returns
returns c =
    c.in_ok-push.ensures
    ∙ ap (λ t. c.args.out.now.items ++ t)
    (whole_rest _ c.put_front-start.result c.put_front-start.new.cells (omega arith)
    ∙ c.put_front-start.ensures.written
    ∙ ap (λ t. comma_if c.args.front.now.later ++ 91 ∷ (compact_text (named c.args.front.now.users.now.names c.args.front.now.user) ++ t))
    c.put_byte-comma.ensures.written)
