use Rattle.std.proofs.Common.{subst, length}
use Rattle.std.specs.FinSet as set
use Rattle.rbac_state.specs.Laws.Rosters.{IsSoundRoster}
use Rattle.policy_book.specs.Laws.Shapes.{PolicyShape}
use Rattle.policy_book.specs.Policies.{flow_at}
use Rattle.policy_book.proofs.Counting.{holder_known}
use Rattle.policy_book.proofs.policy.Policy.kept.Goals as goal

pub returns-clause-known : goal.returns-clause-known
returns-clause-known c = λ s u some.
    let roster = c.args.self.now.roster in
    holder_known roster u (length roster.roles) (λ r. set.contains (flow_at c.args.self.now c.args.f).flow.permits (r, s))
    (subst (λ (p : PolicyShape). IsSoundRoster p.roster) c.self.view_is c.users.ensures.sound) some
