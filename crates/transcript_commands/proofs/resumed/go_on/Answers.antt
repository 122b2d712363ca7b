use Rattle.std.proofs.Common.{ap, subst, sym}
use Rattle.line_reader.specs.Laws.{AreInOrder}
use Rattle.wf_desk.specs.Desks.{DeskShape}
use Rattle.wf_desk.specs.Laws.Parts.{FillsPart}
use Rattle.transcript_commands.proofs.GoingOn.{goes_on_with, restored_with}
use Rattle.transcript_commands.proofs.resumed.go_on.Goals as goal

pub take_rest-requires-clause-restored : goal.take_rest-requires-clause-restored
take_rest-requires-clause-restored c = restored_with _ _ _ _ _ _ c.in-Ok.desk c.in-Ok.ensures

pub take_rest-requires-clause-order : goal.take_rest-requires-clause-order
take_rest-requires-clause-order c =
    subst (λ n. AreInOrder n c.args.batch.now.jobs c.args.batch.now.ends) (sym (ap (λ (d : DeskShape). d.lanes) c.in-Ok.ensures)) c.requires.order

pub take_rest-requires-clause-part : goal.take_rest-requires-clause-part
take_rest-requires-clause-part c =
    subst (λ es. FillsPart es c.args.batch.now.jobs c.args.batch.now.ends) (sym (ap (λ (d : DeskShape). d.entries) c.in-Ok.ensures)) c.requires.part

pub returns-in-Ok-take_rest : goal.returns-in-Ok-take_rest
returns-in-Ok-take_rest c =
    goes_on_with _ _ _ _ _ _ c.in-Ok.desk c.args.batch.now c.in-Ok-take_rest.next c.take_rest.new.desk c.in-Ok.ensures c.in-Ok-take_rest.ensures
