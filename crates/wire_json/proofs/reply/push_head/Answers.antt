use Rattle.std.specs.Prelude.{[], ◌∷◌, ◌++◌, codes, decimal}
use Rattle.std.proofs.Common.{ap, ◌∙◌, arith}
use Rattle.json.specs.Print.{quoted, escape_byte}
use Rattle.wire_json.proofs.Heads.{head_made, whole_rest}
use Rattle.wire_json.proofs.reply.push_head.Goals as goal

pub returns : goal.returns
unfolding escape_byte
returns c =
    let e = c.args.e.now in
    c.in_ok-push.ensures
    ∙ ap (λ t. c.args.out.now.items ++ t)
    (whole_rest _ c.put_number-at.result c.put_number-at.new.cells (omega arith)
    ∙ head_made c.args.after.now _ _ _ _ _ (44 ∷ (quoted (codes "reply") ++ 58 ∷ [])) (44 ∷ (quoted (codes "line") ++ 58 ∷ []))
    (44 ∷ (quoted (codes "lane") ++ 58 ∷ [])) (123 ∷ (quoted (codes "at") ++ 58 ∷ [])) (decimal e.line) (decimal e.lane) (decimal e.at)
    c.put_bytes-behind.ensures.written c.put_bytes-reply.ensures.written c.put_number-line.ensures.written c.put_number-lane.ensures.written
    c.put_number-at.ensures.written)
