use Rattle.std.proofs.Common.{Ok, refl, sym, subst}
use Rattle.wf_names.specs.declared.states.StepState.TheVariants.{Held}
use Rattle.case_record.specs.Cases.{with_state}
use Rattle.grant_table.specs.Cases.{held_row}
use Rattle.wf_talk.specs.declared.reply.Reply.TheVariants as replies
use Rattle.wf_board.specs.declared.deed.Deed.TheVariants as deeds
use Rattle.wf_board.specs.Taking.{HasTakenStep}
use Rattle.wf_board.proofs.Planned.{held_keeps}
use Rattle.wf_board.proofs.Answering.{changed_taken}
use Rattle.wf_board.proofs.taking.claim.Goals as goal

pub returns : goal.returns
returns c =
    let p = c.args.p.now in
    let duty = c.args.duty.now in
    let decision = Ok (deeds.Claim duty) in
    subst (λ t. HasTakenStep p c.args.cases.now t decision (replies.Granted c.args.plan)) (sym c.hold.ensures)
    (changed_taken p c.args.cases.now _ duty.number (held_row duty.step duty.user c.args.plan) (λ d. with_state d duty.step (Held duty.user)) decision
    (replies.Granted c.args.plan)
    (held_keeps p c.args.cases.now duty c.args.plan c.requires.kept c.requires.found c.requires.free c.requires.valid)
    (λ edits. c.requires.valid) (λ s. refl) refl)
