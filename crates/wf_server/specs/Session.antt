-- Inside: how a session goes on after a batch.
use Rattle.std.specs.Prelude.{◌≡◌, List, take, drop}
use Rattle.wf_talk.specs.declared.entry.Entry.{Entry}
use Rattle.wf_board.specs.Laws.States.{opening_state}
use Rattle.wf_board.specs.Laws.Histories.{AreAnsweredOnce, AreRightful, IsLegal}
use Rattle.wf_desk.specs.Desks.{DeskShape}
use Rattle.wf_server.specs.Ways.{ServesOnce}

-- entries go on behind those of a desk: they are legal, what was taken up stays as it was, what
-- comes is rightful, and by a way of serving that answers no request again none is
pub record AreBehind (Leaves : DeskShape → DeskShape → Type 0) (d : DeskShape)
    (entries : List Entry) : Type 0 where
  pub legal : IsLegal (opening_state d.opening) d.rounds entries
  pub begins : take d.restored entries ≡ take d.restored d.entries
  pub wants : AreRightful (drop d.restored entries)
  pub once : ServesOnce Leaves → AreAnsweredOnce (drop d.restored d.entries) →
      AreAnsweredOnce (drop d.restored entries)
