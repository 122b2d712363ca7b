use Rattle.std.proofs.Common.{Err, refl}
use Rattle.wf_names.specs.declared.limits.TheConstants.{POLICY_FILE_LIMIT}
use Rattle.wf_commands.specs.declared.answer.Answer.{Answer}
use Rattle.wf_commands.proofs.Endings.{loaded_ending, loaded_loads, unloaded_ending, unloaded_reads}
use Rattle.wf_commands.proofs.Loading.{answers_file, policy_named}
use Rattle.wf_commands.proofs.Runs.{unread_after}
use Rattle.wf_commands.proofs.Telling.{answers_no_policy}
use Rattle.wf_commands.proofs.once.find_answer.Goals as goal

pub returns-in-Err-clause-answer : goal.returns-in-Err-clause-answer
returns-in-Err-clause-answer g c =
    answers_no_policy (g.A.Answers.answers c.args.command.now (g.S.Source.left c.args.source.now)) (g.F.Shelf.file c.args.shelf.now c.args.policy.now)
    (Err c.in-Err.fault) c.in-Err.fault refl c.in-Err.ensures.policy c.in-Err.ensures.ending

pub returns-in-Err-clause-ending : goal.returns-in-Err-clause-ending
returns-in-Err-clause-ending g c =
    unloaded_ending {A = Answer} (Err c.in-Err.fault) c.in-Err.fault refl c.in-Err.ensures.ending

pub returns-in-Err-clause-named : goal.returns-in-Err-clause-named
returns-in-Err-clause-named g c = c.in-Err.ensures.named

pub returns-in-Err-clause-loads : goal.returns-in-Err-clause-loads
returns-in-Err-clause-loads g c = c.in-Err.ensures.loads

pub returns-in-Err-clause-reads : goal.returns-in-Err-clause-reads
returns-in-Err-clause-reads g c =
    unloaded_reads {A = Answer} (Err c.in-Err.fault) c.in-Err.fault _ refl c.in-Err.ensures.ending

pub returns-in-Err-clause-input : goal.returns-in-Err-clause-input
returns-in-Err-clause-input g c =
    unread_after (g.A.Answers.limit c.args.command.now) (Err c.in-Err.fault) c.in-Err.fault (g.S.Source.left c.args.source.now)
    refl c.in-Err.ensures.ending

pub returns-in-Ok-clause-answer : goal.returns-in-Ok-clause-answer
returns-in-Ok-clause-answer g c =
    answers_file (g.A.Answers.answers c.args.command.now (g.S.Source.left c.args.source.now)) (g.F.Shelf.file c.args.shelf.now c.args.policy.now)
    c.in-Ok.p c.answer.result c.in-Ok.ensures.policy c.answer.ensures.answer

pub returns-in-Ok-clause-ending : goal.returns-in-Ok-clause-ending
returns-in-Ok-clause-ending g c = loaded_ending c.answer.result c.answer.ensures.ending

pub returns-in-Ok-clause-named : goal.returns-in-Ok-clause-named
returns-in-Ok-clause-named g c =
    policy_named (g.F.Shelf.file c.args.shelf.now c.args.policy.now) c.in-Ok.p _ c.in-Ok.ensures.policy

pub returns-in-Ok-clause-loads : goal.returns-in-Ok-clause-loads
returns-in-Ok-clause-loads g c = loaded_loads c.answer.result _ _ c.answer.ensures.ending c.in-Ok.ensures.loads

pub returns-in-Ok-clause-reads : goal.returns-in-Ok-clause-reads
returns-in-Ok-clause-reads g c = c.answer.ensures.reads

pub returns-in-Ok-clause-input : goal.returns-in-Ok-clause-input
returns-in-Ok-clause-input g c = c.answer.ensures.input
