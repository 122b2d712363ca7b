use Rattle.case_views.proofs.work_lists.known_steps.Goals as goal

pub returns : goal.returns
returns c = record { told = c.in_ok-found.ensures; right = c.keep.ensures c.args.p.now c.args.u c.requires.right c.in_ok-found.ensures }
