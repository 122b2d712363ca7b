use Rattle.std.proofs.Common.{Ok, refl, sym, subst}
use Rattle.wf_names.specs.declared.states.StepState.TheVariants.{Free}
use Rattle.case_record.specs.Cases.{with_state}
use Rattle.grant_table.specs.Cases.{freed_row}
use Rattle.wf_talk.specs.declared.reply.Reply.TheVariants as replies
use Rattle.wf_board.specs.declared.deed.Deed.TheVariants as deeds
use Rattle.wf_board.specs.Taking.{HasTakenStep}
use Rattle.wf_board.proofs.Answering.{changed_taken}
use Rattle.wf_board.proofs.admit.admit_release.Goals as goal

pub returns-in-Released : goal.returns-in-Released
returns-in-Released c =
    let d = Ok (deeds.Release c.args.n c.args.case.now c.args.s) in
    subst (λ r. HasTakenStep c.args.p.now c.args.cases.now c.give_back.new.cases d r) (sym c.in-Released.is)
    (changed_taken c.args.p.now c.args.cases.now c.give_back.new.cases c.args.n (freed_row c.args.s) (λ k. with_state k c.args.s Free) d replies.Released
    c.give_back.ensures (λ edits. tt) (λ s. refl) refl)
