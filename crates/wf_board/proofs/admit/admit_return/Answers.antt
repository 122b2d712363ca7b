use Rattle.std.proofs.Common.{Ok, refl, sym, subst}
use Rattle.wf_names.specs.declared.states.StepState.TheVariants.{Free}
use Rattle.case_record.specs.Cases.{with_state}
use Rattle.grant_table.specs.Cases.{freed_row}
use Rattle.wf_talk.specs.declared.reply.Reply.TheVariants as replies
use Rattle.wf_board.specs.declared.deed.Deed.TheVariants as deeds
use Rattle.wf_board.specs.Taking.{HasTakenStep}
use Rattle.wf_board.proofs.Answering.{changed_taken}
use Rattle.wf_board.proofs.admit.admit_return.Goals as goal

pub returns-in-Returned : goal.returns-in-Returned
returns-in-Returned c =
    let duty = c.args.duty.now in
    let d = Ok (deeds.GiveBack duty) in
    subst (λ r. HasTakenStep c.args.p.now c.args.cases.now c.give_back.new.cases d r) (sym c.in-Returned.is)
    (changed_taken c.args.p.now c.args.cases.now c.give_back.new.cases duty.number (freed_row duty.step) (λ k. with_state k duty.step Free) d replies.Returned
    c.give_back.ensures (λ edits. tt) (λ s. refl) refl)
