use Rattle.std.proofs.Common.{Err, refl, Some, subst}
use Rattle.wf_names.specs.declared.limits.TheConstants.{LINE_LIMIT}
use Rattle.wf_outside.specs.Laws.Outside.{Filed}
use Rattle.run_record.specs.Fault.{fault_in}
use Rattle.wf_commands.specs.Answer.{AnswersAs}
use Rattle.wf_commands.proofs.Loading.{answers_file}
use Rattle.wf_commands.proofs.Runs.{unread_after}
use Rattle.wf_commands.specs.CnfAnswers.{ModelAsked}
use Rattle.wf_commands.specs.Model.{EndsWithoutModel}
use Rattle.wf_commands.proofs.Telling.{answers_no_policy}
use Rattle.wf_commands.proofs.model.find_reading.Goals as goal

pub returns-in-Err-clause-answer : goal.returns-in-Err-clause-answer
returns-in-Err-clause-answer g c =
    answers_no_policy (λ p. ModelAsked p c.args.flow.now (g.F.Shelf.file c.args.shelf.now c.args.model.now) (g.S.Source.left c.args.source.now))
    (g.F.Shelf.file c.args.shelf.now c.args.policy.now) (Err c.in-Err.fault) c.in-Err.fault refl c.in-Err.ensures.policy
    c.in-Err.ensures.ending

pub returns-in-Err-clause-input : goal.returns-in-Err-clause-input
returns-in-Err-clause-input g c =
    unread_after (Some LINE_LIMIT) (Err c.in-Err.fault) c.in-Err.fault
    (g.S.Source.left c.args.source.now) refl c.in-Err.ensures.ending

pub returns-in-Ok-clause-answer : goal.returns-in-Ok-clause-answer
returns-in-Ok-clause-answer g c =
    answers_file (λ p. ModelAsked p c.args.flow.now (g.F.Shelf.file c.args.shelf.now c.args.model.now) (g.S.Source.left c.args.source.now))
    (g.F.Shelf.file c.args.shelf.now c.args.policy.now) c.in-Ok.p c.read_under.result c.in-Ok.ensures.policy
    (λ file read. subst (λ (x : Filed). AnswersAs (ModelAsked c.in-Ok.p c.args.flow.now x (g.S.Source.left c.args.source.now)) c.read_under.result)
    (c.in-Ok.ensures.kept c.args.model.now) c.read_under.ensures.answer)

pub returns-in-Ok-clause-without : goal.returns-in-Ok-clause-without
returns-in-Ok-clause-without g c =
    subst (λ (x : Filed). EndsWithoutModel x (fault_in c.read_under.result)) (c.in-Ok.ensures.kept c.args.model.now) c.read_under.ensures.without
