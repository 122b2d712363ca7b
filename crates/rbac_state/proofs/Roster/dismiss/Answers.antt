use Rattle.basics.specs.PairLaws.{all_remove}
use Rattle.rbac_state.proofs.Soundness.{sound_members}
use Rattle.rbac_state.proofs.Roster.dismiss.Goals as goal

pub invariant_of-self : goal.invariant_of-self
invariant_of-self c =
    let sound = c.self.invariant.1 in (
      c.self.invariant.0,
      sound_members _ _ _ c.dismiss_among.result (all_remove _ _ c.args.u c.args.r sound.members) c.dismiss_among.ensures.dismissed
          c.dismiss_among.ensures.unchanged sound,
    )
