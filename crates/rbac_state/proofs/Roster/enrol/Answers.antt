use Rattle.std.proofs.Common.{◌<◌, length, sym, subst}
use Rattle.basics.specs.PairLaws.{all_insert}
use Rattle.rbac_state.specs.Laws.Rosters.{RosterShape}
use Rattle.rbac_state.proofs.Soundness.{sound_members}
use Rattle.rbac_state.proofs.Roster.enrol.Goals as goal

pub invariant_of-self : goal.invariant_of-self
invariant_of-self c =
    let user = subst (λ (s : RosterShape). c.args.u < length s.users) (sym c.self.view_is) c.requires.user in
    let role = subst (λ (s : RosterShape). c.args.r < length s.roles) (sym c.self.view_is) c.requires.role in
    let sound = c.self.invariant.1 in (
      c.self.invariant.0,
      sound_members _ _ _ c.enrol_among.result (all_insert _ _ c.args.u c.args.r (user, role) sound.members) c.enrol_among.ensures.enrolled
          c.enrol_among.ensures.unchanged sound,
    )
