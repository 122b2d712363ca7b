use Rattle.std.proofs.Common.{◌≡◌, subst, Ok, Err}
use Rattle.cnf_export.specs.ModelText.{model_of_text}
use Rattle.wf_commands.specs.CnfAnswers.{ReadsModel}
use Rattle.wf_commands.specs.CnfSteps.{GivesModel}
use Rattle.wf_commands.proofs.Telling.{answers_large, answers_model, answers_word}
use Rattle.wf_commands.proofs.cnf_answer.answer_case.Goals as goal

pub returns-in_err-variables-clause-answer : goal.returns-in_err-variables-clause-answer
returns-in_err-variables-clause-answer c =
    answers_large c.args.course.now.policy.now c.args.course.now.number c.args.c.now
    (ReadsModel c.args.course.now.policy.now c.args.course.now.number c.args.text.now c.args.c.now) c.from_residual.result c.in_err-variables.field-0.0
    c.from_residual.ensures.1 c.in_err-variables.ensures.refused

pub returns-in_err-m-clause-answer : goal.returns-in_err-m-clause-answer
returns-in_err-m-clause-answer c =
    answers_word c.args.course.now.policy.now c.args.course.now.number c.args.c.now c.args.text.now c.from_residual-in_err-m.result c.in_err-m.field-0.0
    c.from_residual-in_err-m.ensures.1 c.in_ok-variables.ensures.count.0
    (subst (λ n. GivesModel n c.args.text.now (Err c.in_err-m.field-0.0)) c.in_ok-variables.ensures.count.1 c.in_err-m.ensures.model)

pub returns-clause-answer : goal.returns-clause-answer
returns-clause-answer c =
    answers_model c.args.course.now.policy.now c.args.course.now.number c.args.c.now c.args.text.now c.in_ok-m.m c.answer_model.result
    (subst (λ n. model_of_text n c.args.text.now ≡ Ok c.in_ok-m.m) c.in_ok-variables.ensures.count.1 c.in_ok-m.ensures.model)
    c.answer_model.ensures.answer
