use Rattle.std.proofs.Common.{inl, inr, Ok, refl, sym, subst}
use Rattle.wf_talk.specs.declared.reply.Reply.TheVariants as replies
use Rattle.wf_board.specs.declared.deed.Deed.TheVariants as deeds
use Rattle.wf_board.specs.Admission.{HasAdmitted}
use Rattle.wf_board.specs.Boards.{book_of}
use Rattle.wf_board.specs.Taking.{HasTakenStep}
use Rattle.wf_board.proofs.Admission.{opened_same, room_tells}
use Rattle.wf_board.proofs.granted.open_as.Goals.{in-NoMemory, in_default}
use Rattle.wf_board.proofs.granted.open_as.Goals as goal

pub returns : goal.returns
returns c =
    let p = c.args.course.now.policy.now in
    let t = c.args.cases.now in
    let f = c.args.course.now.number in
    let given = replies.Opened c.args.number c.args.plan.now in
    elim c.match-open.branch [
      | in-NoMemory w ↦ subst (HasAdmitted p t c.open.new.cases (Ok (deeds.Open f)) given) (sym w.result-is)
          (c.open.ensures.unchanged w.in-NoMemory.is, inr (inl (refl, (c.open.ensures.memory w.in-NoMemory.is).1)))
      | in_default w ↦ subst (HasAdmitted p t c.open.new.cases (Ok (deeds.Open f)) given) (sym w.result-is)
          (opened_same p t c.open.new.cases f c.args.number c.args.plan.now c.open.result
          (subst (λ d. HasTakenStep p t c.open.new.cases d c.open.result) c.requires.room c.open.ensures.taken)
          (c.open.ensures.made (room_tells (book_of p t) f c.requires.room)) w.in_default.not-NoMemory
          (c.is_next.ensures.0 c.if-not-is_next.false))
    ]
