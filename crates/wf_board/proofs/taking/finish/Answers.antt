use Rattle.std.proofs.Common.{◌≡◌, IsSomeAnd, Ok, refl, sym, subst}
use Rattle.wf_names.specs.States.{is_done}
use Rattle.case_record.specs.Cases.{finished_case}
use Rattle.grant_table.specs.Cases.{case_at, finished_row, HasHeldStep}
use Rattle.wf_talk.specs.declared.reply.Reply.TheVariants as replies
use Rattle.wf_board.specs.declared.deed.Deed.TheVariants as deeds
use Rattle.wf_board.specs.Taking.{HasTakenStep}
use Rattle.wf_board.proofs.Planned.{done_is, finished_keeps, on_case}
use Rattle.wf_board.proofs.Answering.{changed_taken}
use Rattle.wf_board.proofs.taking.finish.Goals as goal

pub finish-requires : goal.finish-requires
finish-requires c =
    on_case (λ k. HasHeldStep k c.args.duty.now.step) c.args.cases.now.rows c.args.duty.now.number c.args.duty.now.case c.requires.found.found
    record { open_case = c.requires.found.live; held = c.requires.held }

pub returns : goal.returns
returns c =
    let p = c.args.p.now in
    let duty = c.args.duty.now in
    let n = duty.number in
    let s = duty.step in
    let done = c.finish.result in
    let decision = Ok (deeds.Finish duty) in
    let is = done_is c.args.cases.now.rows n s duty.case done c.requires.found.found
    (subst (λ t. IsSomeAnd (case_at t n) (λ x. done ≡ is_done x.phase)) c.finish.ensures.finished c.finish.ensures.done) in
    subst (λ t. HasTakenStep p c.args.cases.now t decision (replies.Finished done)) (sym c.finish.ensures.finished)
    (changed_taken p c.args.cases.now _ n (finished_row s) (λ d. finished_case d s) decision (replies.Finished done)
    (finished_keeps p c.args.cases.now n duty.case s c.requires.kept c.requires.found c.requires.held)
    (λ edits. is) (λ s. refl) refl)
