use Rattle.json.specs.Print.{escape_byte}
use Rattle.wire_json.proofs.Texts.{face_added_in}
use Rattle.wire_json.proofs.reply.push_shown.Goals as goal

pub returns : goal.returns
unfolding escape_byte
returns c =
    rw (← c.as_slice.ensures.states) (face_added_in _ _ _ _ _ _ _ _ _ _ _ _ c.in_ok-push.ensures c.in_ok-push_flow.ensures c.in_ok-push-2.ensures
    c.in_ok-push_phase.ensures c.in_ok-push_list_in.ensures c.in_ok-push-3.ensures)
