use Rattle.std.proofs.Common.{List, ℕ, subst}
use Rattle.wf_outside.specs.Laws.Outside.{HasPart}
use Rattle.tell_run.proofs.Filed.{judged_part}
use Rattle.tell_run.proofs.policy.run_policy.Goals as goal

pub returns-in-Ok-clause-judges : goal.returns-in-Ok-clause-judges
returns-in-Ok-clause-judges g c =
    judged_part c.args.policy.now (g.F.Shelf.file c.args.shelf.now) c.in-Ok.answer (g.K.Sink.held c.args.sink.now) (g.K.Sink.held c.put_and_flush.new.sink)
    c.in-Ok.ensures.judges
    (subst (λ (text : List ℕ). HasPart (g.K.Sink.held c.args.sink.now) (g.K.Sink.held c.put_and_flush.new.sink) text) c.as_slice.ensures.value
    c.in-Err-put_and_flush.ensures.part)
