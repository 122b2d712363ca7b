use Rattle.std.proofs.Common.{Ok, refl, sym, subst}
use Rattle.wf_names.specs.declared.states.StepState.TheVariants.{Free}
use Rattle.wf_names.specs.declared.states.Phase.TheVariants.{Withdrawn}
use Rattle.case_record.specs.Cases.{with_phase, with_state}
use Rattle.grant_table.specs.Cases.{freed_row, withdrawn_row}
use Rattle.wf_talk.specs.declared.reply.Reply.TheVariants as replies
use Rattle.wf_board.specs.declared.deed.Deed.TheVariants as deeds
use Rattle.wf_board.specs.Taking.{HasTakenStep}
use Rattle.wf_board.proofs.Answering.{changed_taken}
use Rattle.wf_board.proofs.taking.perform.Goals as goal

pub returns-in-GiveBack-clause-taken : goal.returns-in-GiveBack-clause-taken
returns-in-GiveBack-clause-taken c =
    let duty = c.in-GiveBack.duty in
    subst (λ d. HasTakenStep c.args.p.now c.args.cases.now c.give_back.new.cases (Ok d) replies.Returned) (sym c.in-GiveBack.is)
    (changed_taken c.args.p.now c.args.cases.now c.give_back.new.cases duty.number (freed_row duty.step) (λ d. with_state d duty.step Free)
    (Ok (deeds.GiveBack duty)) replies.Returned
    c.give_back.ensures (λ edits. tt) (λ s. refl) refl)

pub returns-in-Release-clause-taken : goal.returns-in-Release-clause-taken
returns-in-Release-clause-taken c =
    let given = c.in-Release in
    subst (λ d. HasTakenStep c.args.p.now c.args.cases.now c.give_back-in-Release.new.cases (Ok d) replies.Released) (sym given.is)
    (changed_taken c.args.p.now c.args.cases.now c.give_back-in-Release.new.cases given.number (freed_row given.step) (λ d. with_state d given.step Free)
    (Ok (deeds.Release given.number given.case given.step)) replies.Released
    c.give_back-in-Release.ensures (λ edits. tt) (λ s. refl) refl)

pub returns-in-Withdraw-clause-taken : goal.returns-in-Withdraw-clause-taken
returns-in-Withdraw-clause-taken c =
    let given = c.in-Withdraw in
    subst (λ d. HasTakenStep c.args.p.now c.args.cases.now c.withdraw.new.cases (Ok d) replies.Withdrawn) (sym given.is)
    (changed_taken c.args.p.now c.args.cases.now c.withdraw.new.cases given.number withdrawn_row (λ d. with_phase d Withdrawn)
    (Ok (deeds.Withdraw given.number)) replies.Withdrawn
    c.withdraw.ensures (λ edits. tt) (λ s. refl) refl)
