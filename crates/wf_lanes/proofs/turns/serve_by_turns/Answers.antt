use Rattle.wf_lanes.proofs.TurnLaws.{of_lanes_on, turns_end, turns_more, turns_none}
use Rattle.wf_lanes.proofs.turns.serve_by_turns.Goals as goal

pub serving-init : goal.serving-init
serving-init g c = record { turns = turns_none c.args.desk.now; lanes = c.requires.lanes }

pub serving-preserved : goal.serving-preserved
serving-preserved g c = record {
  turns = turns_more c.args.desk.now c.serving.desk c.serve_turn.new.desk c.serving.invariant.turns c.serve_turn.ensures.turn;
  lanes = of_lanes_on c.serving.desk c.serve_turn.new.desk c.serve_turn.ensures.turn.on.grown c.serving.invariant.lanes;
}

pub returns-then-not-serve_turn-clause-turns : goal.returns-then-not-serve_turn-clause-turns
returns-then-not-serve_turn-clause-turns g c =
    turns_end c.args.desk.now c.serve_turn.new.desk
    (turns_more c.args.desk.now c.serving.desk c.serve_turn.new.desk c.serving.invariant.turns c.serve_turn.ensures.turn)
