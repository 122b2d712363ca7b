use Rattle.std.proofs.Common.{◌≤◌, ap, drop, max, nat_eq, nat_lt, not, subst, ◌∙◌}
use Rattle.wf_board.specs.Counting.{count_of}
use Rattle.wf_desk.specs.Desks.{loss_of}
use Rattle.wf_desk.proofs.CommitLaws.{floor_test}
use Rattle.wf_desk.proofs.desk.Desk.is_past_floor.Goals as goal

pub returns-then-before-task : goal.returns-then-before-task
returns-then-before-task c =
    let lane = c.args.task.now.lane in
    let n = c.args.task.now.number in
    let d = c.args.self.now in
    let before : max d.start (loss_of d.losses lane).end ≤ n =
    subst (λ e. max e.start (loss_of e.losses lane).end ≤ n) c.self.view_is (rw c.max-before.ensures at c.if-before-task.true) in
    ap not (c.any_of_lane.ensures ∙
    ap (λ es. nat_lt 0 (count_of (λ e. nat_eq e.lane lane) es)) (c.entries_from.ensures ∙ ap (λ e. drop n e.entries) c.self.view_is))
    ∙ floor_test d lane n before
