use Rattle.std.proofs.Common.{[], ◌∷◌, ◌++◌, ap, sym, ◌∙◌}
use Rattle.serde_json.specs.Written.{compact_text}
use Rattle.wire_json.specs.Pieces.{head_text}
use Rattle.wire_json.specs.Replies.{reply_data}
use Rattle.wire_json.proofs.Lines.{line_in_three, line_split}
use Rattle.wire_json.proofs.reply.push_line.Goals as goal

pub returns : goal.returns
returns c =
    line_in_three _ _ _ _ (head_text c.args.e.now) (compact_text (reply_data c.args.p.now c.args.e.now.reply)) (125 ∷ 10 ∷ []) c.in_ok-push_head.ensures
    c.in_ok-push_reply.ensures c.in_ok-push.ensures
    ∙ ap (λ t. c.args.out.now.items ++ t) (sym (line_split c.args.p.now c.args.e.now))
