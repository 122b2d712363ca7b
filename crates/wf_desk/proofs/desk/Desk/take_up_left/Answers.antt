use Rattle.wf_desk.proofs.desk.Desk.take_up_left.Goals as goal

pub returns-in-None : goal.returns-in-None
returns-in-None g c = c.take_up_deed.ensures c.args.near
