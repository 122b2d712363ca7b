use Rattle.constraint_forms.specs.Assign.{no_steps, no_users}
use Rattle.policy_book.specs.Policies.{problem_of}
use Rattle.case_views.specs.Deciding.{DecidesFor}
use Rattle.case_views.proofs.Deciding.{unfound_is, verdict_decides}
use Rattle.case_views.proofs.decider.open_verdict.Goals as goal

pub returns-in-Ok : goal.returns-in-Ok
returns-in-Ok c =
    verdict_decides (problem_of c.args.p.now c.args.flow) no_users no_steps c.in-Ok.outcome c.verdict_of.result
    c.in-Ok.ensures c.verdict_of.ensures

pub returns-in-Err : goal.returns-in-Err
returns-in-Err c =
    unfound_is (DecidesFor (problem_of c.args.p.now c.args.flow) no_users no_steps) c.in-Err.unfound c.verdict_without.result c.verdict_without.ensures tt tt
