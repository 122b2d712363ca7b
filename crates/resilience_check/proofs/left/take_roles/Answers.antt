use Rattle.std.proofs.Common.{◌∙◌, length, ap, sym, subst, arith}
use Rattle.std.specs.FinSet as set
use Rattle.basics.specs.Laws.Pairs.{Pairs}
use Rattle.rbac_state.specs.Laws.Rosters.{IsSoundRoster, RosterShape}
use Rattle.policy_book.specs.Laws.Shapes.{PolicyShape}
use Rattle.resilience_check.specs.Searches.{with_members}
use Rattle.resilience_check.proofs.Memberships.{all_roles_less, no_role_yet, one_role_less}
use Rattle.resilience_check.proofs.left.take_roles.Goals as goal

pub roles-init : goal.roles-init
roles-init c = ap (λ (m : Pairs). with_members c.args.p.now m) (sym (no_role_yet c.args.u c.args.p.now.roster.members))

pub roles-preserved : goal.roles-preserved
roles-preserved c =
    c.in_ok-take_role.ensures
    ∙ ap (λ (q : PolicyShape). with_members q (set.remove q.roster.members (c.args.u, c.roles.r))) c.roles.invariant
    ∙ ap (λ (m : Pairs). with_members c.args.p.now m) (one_role_less c.roles.r c.args.u c.args.p.now.roster.members)

pub returns : goal.returns
returns c =
    let sound = subst (λ (r : RosterShape). IsSoundRoster r) c.roster.ensures.roster c.roles-2.ensures.sound in
    c.roles.invariant
    ∙ ap (λ (m : Pairs). with_members c.args.p.now m) (all_roles_less c.args.p.now.roster c.roles.r c.args.u sound
    (omega (
      arith,
      c.roles-test.false,
      c.len-roles.ensures.count,
      ap
          (λ (r : RosterShape). length r.roles) c.roster.ensures.roster,
      ap length c.roles-2.ensures.names,
    )))
