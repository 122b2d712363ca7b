use Rattle.std.proofs.Common.{Ok, refl, sym, subst}
use Rattle.wf_names.specs.declared.states.Phase.TheVariants.{Withdrawn}
use Rattle.case_record.specs.Cases.{with_phase}
use Rattle.grant_table.specs.Cases.{withdrawn_row}
use Rattle.wf_talk.specs.declared.reply.Reply.TheVariants as replies
use Rattle.wf_board.specs.declared.deed.Deed.TheVariants as deeds
use Rattle.wf_board.specs.Taking.{HasTakenStep}
use Rattle.wf_board.proofs.Answering.{changed_taken}
use Rattle.wf_board.proofs.admit.admit_withdrawal.Goals as goal

pub returns-in-Withdrawn : goal.returns-in-Withdrawn
returns-in-Withdrawn c =
    let d = Ok (deeds.Withdraw c.args.n) in
    subst (λ r. HasTakenStep c.args.p.now c.args.cases.now c.withdraw.new.cases d r) (sym c.in-Withdrawn.is)
    (changed_taken c.args.p.now c.args.cases.now c.withdraw.new.cases c.args.n withdrawn_row (λ k. with_phase k Withdrawn) d replies.Withdrawn
    c.withdraw.ensures (λ edits. tt) (λ s. refl) refl)
