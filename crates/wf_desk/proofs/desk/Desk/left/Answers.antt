use Rattle.std.proofs.Common.{◌<◌, ◌≤◌, ◌-◌, ap, drop, length, slice_index_or, sym, subst, take, ◌∙◌, arith}
use Rattle.wf_names.specs.declared.limits.TheConstants.{LANE_LIMIT}
use Rattle.wf_board.specs.Laws.Histories.{lane_jobs}
use Rattle.wf_desk.specs.Desks.{AreOfLanes, left_of}
use Rattle.wf_desk.proofs.DocketLaws.{left_at, left_past, rest_from}
use Rattle.wf_desk.proofs.desk.Desk.left.Goals as goal

pub returns-then-lane-self : goal.returns-then-lane-self
returns-then-lane-self c =
    let known = c.if-lane-self.true in
    let few = c.self.invariant.desk.few in
    let below : c.args.lane < LANE_LIMIT = omega (arith, known, few) in
    let placed = c.self.invariant.desk.placed c.args.lane below in
    let place = slice_index_or c.self.inside.places c.args.lane 0 in
    c.count_of_lane.ensures ∙ ap (λ js. length (lane_jobs c.args.lane (take (length js - place) (drop place js)))) c.batch_of.ensures
    ∙ ap (λ js. length (lane_jobs c.args.lane js)) (rest_from (drop c.self.inside.first c.self.inside.jobs) place)
    ∙ sym (left_at _ c.args.lane place placed) ∙ ap (λ d. left_of d c.args.lane) c.self.view_is

pub returns-else-lane-self : goal.returns-else-lane-self
returns-else-lane-self c =
    sym (left_past c.args.self.now c.args.lane (subst (λ d. AreOfLanes d.lanes d.jobs) c.self.view_is c.self.invariant.desk.of_lanes)
    (subst (λ d. d.lanes ≤ c.args.lane) c.self.view_is c.if-lane-self.false))
