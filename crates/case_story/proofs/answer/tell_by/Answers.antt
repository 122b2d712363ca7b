use Rattle.std.proofs.Common.{sym, subst}
use Rattle.wf_commands.specs.Answer.{ending_with}
use Rattle.case_story.specs.Printed.{TellsBy}
use Rattle.case_story.proofs.Told.{wrong_told}
use Rattle.case_story.proofs.answer.tell_by.Goals as goal

pub returns-in_ok-answer-in-Fault-clause-tells : goal.returns-in_ok-answer-in-Fault-clause-tells
returns-in_ok-answer-in-Fault-clause-tells c =
    let a = c.in_ok-answer-in-Fault.answer in
    subst (λ v. TellsBy c.args.mark.now v c.args.end.now c.args.is_there (ending_with a.found) a.text.items) (sym c.in-Fault.is)
    (wrong_told c.args.mark.now c.args.end.now c.args.body.now c.in-Fault.n c.in-Fault.kind c.args.is_there a c.in_ok-answer-in-Fault.ensures.found
    c.in_ok-answer-in-Fault.ensures.text)
