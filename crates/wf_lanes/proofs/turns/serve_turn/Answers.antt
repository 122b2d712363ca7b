use Rattle.std.proofs.Common.{◌≤◌, ◌+◌, sym, subst, arith}
use Rattle.std.proofs.lemmas.Grind.{common_steps}
use Rattle.wf_desk.specs.Laws.Commits.{HasServed}
use Rattle.wf_lanes.proofs.TurnLaws.{HasTurned, turned_none, turned_served, turned_passed, turned_done, turned_less, turned_whole}
use Rattle.wf_lanes.proofs.turns.serve_turn.Goals.{then-serve_next, else-serve_next}
use Rattle.wf_lanes.proofs.turns.serve_turn.Goals as goal

pub turn-init : goal.turn-init
turn-init g c = record { turned = turned_none c.args.desk.now }

pub turn-preserved : goal.turn-preserved
turn-preserved g c =
    let a = c.args.desk.now in
    let b = c.turn.desk in
    let d = c.serve_next.new.self in
    let lane = c.turn.lane in
    let served = c.serve_next.ensures in
    let turned = c.turn.invariant.turned in
    elim c.if-serve_next.branch [
      | then-serve_next w ↦ record {
        turned = subst (λ had. HasTurned a d (lane + 1) had) (sym w.served-is)
            (turned_served a b d lane c.turn.served turned (subst (λ had. HasServed b d lane had) w.if-serve_next.true served));
      }
      | else-serve_next w ↦ record {
        turned = subst (λ had. HasTurned a d (lane + 1) had) (sym w.served-is)
            (turned_passed a b d lane c.turn.served turned (subst (λ had. HasServed b d lane had) w.if-serve_next.false served));
      }
    ]

pub returns-clause-turn : goal.returns-clause-turn
returns-clause-turn g c =
    let all : c.args.desk.now.lanes ≤ c.turn.lane = grind (arith, common_steps, c.turn-test.false, c.turn.auto.lane-end, c.lanes-lane-end.ensures.count) in
    turned_whole c.args.desk.now c.turn.desk c.turn.lane c.turn.served c.turn.invariant.turned all c.requires.lanes

pub returns-clause-done : goal.returns-clause-done
returns-clause-done g c none =
    let all : c.args.desk.now.lanes ≤ c.turn.lane = grind (arith, common_steps, c.turn-test.false, c.turn.auto.lane-end, c.lanes-lane-end.ensures.count) in
    turned_done c.args.desk.now c.turn.desk c.turn.lane (subst (λ had. HasTurned c.args.desk.now c.turn.desk c.turn.lane had) none c.turn.invariant.turned)
    all c.requires.lanes

pub returns-clause-less : goal.returns-clause-less
returns-clause-less g c some =
    turned_less c.args.desk.now c.turn.desk c.turn.lane (subst (λ had. HasTurned c.args.desk.now c.turn.desk c.turn.lane had) some c.turn.invariant.turned)
    c.journal-kept.ensures.sound
