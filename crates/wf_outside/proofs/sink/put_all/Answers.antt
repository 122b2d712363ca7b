use Rattle.std.proofs.Common.{refl, sym, arith, length-take, length-drop}
use Rattle.wf_outside.proofs.OutsideLaws.{nothing_put, put_on}
use Rattle.wf_outside.proofs.sink.put_all.Goals as goal

pub putting-init : goal.putting-init
putting-init g c = record { within = omega arith; taken = sym (nothing_put (g.K.Sink.held c.args.sink.now)); faults = refl }

pub putting-preserved : goal.putting-preserved
putting-preserved g c = grind (arith, length-take, length-drop, put_on)
