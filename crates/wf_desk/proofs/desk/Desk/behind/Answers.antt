use Rattle.wf_desk.proofs.OneList.{behind_at, parted_behind}
use Rattle.wf_desk.proofs.desk.Desk.behind.Goals as goal

pub invariant_of-self : goal.invariant_of-self
invariant_of-self c =
    parted_behind _ c.self.inside.places c.args.jobs c.len-self-inside.result c.len-self-inside.ensures
    (rw (← c.self.view_is) at c.requires.none) c.self.invariant.desk

pub returns : goal.returns
returns c = behind_at _ c.args.self.now c.args.jobs c.len-self-inside.result c.len-self-inside.ensures c.self.view_is c.requires.none
