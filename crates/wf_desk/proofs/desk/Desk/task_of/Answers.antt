use Rattle.std.proofs.Common.{◌≡◌, Some, ap, refl, subst, ◌∙◌}
use Rattle.wf_board.specs.Verdicts.{snap_of}
use Rattle.wf_desk.specs.Desks.{DeskShape, next_job}
use Rattle.wf_desk.proofs.CommitLaws.{task_is}
use Rattle.wf_desk.proofs.NextJobs.{stands_next}
use Rattle.wf_desk.proofs.desk.Desk.task_of.Goals as goal

pub returns : goal.returns
returns c =
    let job = c.job_here-job.result.now in
    let stands = stands_next _ c.self.inside.places c.args.lane _ job c.self.invariant.desk (rw (← c.self.view_is) at c.requires.lane) c.batch_of.ensures
    c.job_here-job.ensures in
    let next = subst (λ (d : DeskShape). next_job d c.args.lane ≡ Some job) c.self.view_is stands.here in
    task_is c.args.self.now c.args.lane job c.number.result c.in_ok-snap.field-0 next c.number.ensures
    (c.in_ok-snap.ensures ∙ ap (λ d. snap_of d.board job.ask c.in_ok-snap.field-0.cases.spare) c.self.view_is) _ refl
