use Rattle.std.proofs.Common.{ℕ, List, Option, IfSome, subst}
use Rattle.policy_book.specs.Course.{problem_in}
use Rattle.rule_core.specs.Crowds.{IsCrowd}
use Rattle.rule_core.proofs.Assigned.{assigned_in}
use Rattle.rule_core.proofs.Crowding.{crowds_block}
use Rattle.rule_core.proofs.search.why_of.Goals as goal

pub returns-in-Some : goal.returns-in-Some
returns-in-Some c =
    let p = problem_in c.args.case.now.course.now in
    let crowd = subst (λ (found : Option (List ℕ)). IfSome found (IsCrowd p c.args.case.now.users.now)) c.in-Some.is c.in_ok-steps.ensures in
    (crowd, crowds_block p c.args.case.now.users.now _ c.in-Some.steps (assigned_in c.args.case.now) crowd)
