use Rattle.std.proofs.Common.{IfOk, sym, subst}
use Rattle.policy_book.specs.Laws.Plans.{IsWithin, Problem}
use Rattle.wsp_solver.specs.Searches.{HasSolved}
use Rattle.rule_core.proofs.Assigned.{assigned_in}
use Rattle.rule_core.proofs.search.solve_with.Goals as goal

pub solve-requires-clause-within : goal.solve-requires-clause-within
solve-requires-clause-within c =
    let within = c.args.case.now.within in
    subst (λ (q : Problem). IsWithin q c.args.case.now.users.now) (sym c.in_ok-left.ensures.problem) (record { steps = within.steps; users = within.users })

pub solve-requires-clause-assigned : goal.solve-requires-clause-assigned
solve-requires-clause-assigned c = assigned_in c.args.case.now

pub returns : goal.returns
returns c =
    subst (λ (q : Problem). IfOk c.solve.result (HasSolved q c.args.case.now.users.now c.args.case.now.done.now)) c.in_ok-left.ensures.problem c.solve.ensures
