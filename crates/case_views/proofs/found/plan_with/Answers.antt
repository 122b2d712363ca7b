use Rattle.std.proofs.Common.{◌≡◌, IfSome, subst, arith}
use Rattle.std.proofs.lemmas.Grind.{common_steps}
use Rattle.constraint_forms.specs.Assign.{planned}
use Rattle.policy_book.specs.Policies.{problem_of}
use Rattle.policy_book.specs.Laws.Plans.{IsValidPlan}
use Rattle.case_record.specs.Cases.{assigned_of, finished_of}
use Rattle.admin_edits.specs.ClaimCauses.{assigned_with}
use Rattle.wf_board.proofs.Giving.{valid_with}
use Rattle.case_views.proofs.Deciding.{kept_length, search_within}
use Rattle.case_views.proofs.Editing.{said_same}
use Rattle.case_views.proofs.found.plan_with.Goals as goal

pub at-requires : goal.at-requires
at-requires c =
    omega (arith, kept_length c.args.p.now c.args.case.now c.args.kept.now c.requires.known c.requires.valid, c.requires.step)

pub returns-then-eq : goal.returns-then-eq
returns-then-eq c =
    let k = c.args.case.now in
    let gives : planned c.args.kept.now c.args.step ≡ c.args.user = grind (arith, common_steps, c.at.ensures, c.eq.ensures, c.if-eq.true) in
    valid_with (problem_of c.args.p.now k.flow) k c.args.step c.args.user c.args.kept.now gives c.requires.valid

pub moved_plan-requires-clause-flow : goal.moved_plan-requires-clause-flow
moved_plan-requires-clause-flow c = rw c.flow-flow.ensures c.requires.known.flow

pub moved_plan-requires-clause-whole : goal.moved_plan-requires-clause-whole
moved_plan-requires-clause-whole c = rw c.flow-flow.ensures c.requires.valid.whole

pub moved_plan-requires-clause-step : goal.moved_plan-requires-clause-step
moved_plan-requires-clause-step c =
    let step = c.requires.step in
    let steps = c.requires.known.steps in
    rw c.flow-flow.ensures (omega (arith, step, steps))

pub returns-in-Some : goal.returns-in-Some
returns-in-Some c =
    let k = c.args.case.now in
    let step = c.args.step in
    let user = c.args.user in
    subst (λ f. IsValidPlan (problem_of c.args.p.now f) (assigned_with k step user) (finished_of k) c.in-Some.plan) c.flow-flow.ensures
    (c.in-Some.ensures.valid (assigned_of k) (finished_of k) (rw c.flow-flow.ensures c.requires.valid))

pub plan_near-requires-clause-within : goal.plan_near-requires-clause-within
plan_near-requires-clause-within c =
    rw (c.flow-flow.ensures, c.assigned_with-assigned.ensures.given)
    (search_within c.args.p.now c.args.case.now c.args.kept.now c.args.step c.args.user c.requires)

pub returns-in-None : goal.returns-in-None
returns-in-None c =
    let k = c.args.case.now in
    said_same (λ q a d. IfSome c.plan_near.result (IsValidPlan q a d)) c.args.p.now k.flow c.flow-flow.result (assigned_with k c.args.step c.args.user)
    c.assigned_with-assigned.result (finished_of k) c.finished.result
    c.flow-flow.ensures c.assigned_with-assigned.ensures.given c.finished.ensures.value c.plan_near.ensures
