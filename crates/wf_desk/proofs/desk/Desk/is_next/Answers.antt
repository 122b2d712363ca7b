use Rattle.std.proofs.Common.{◌≡◌, Some, ap, subst, ◌∙◌}
use Rattle.wf_talk.specs.declared.job.Job.{Job}
use Rattle.wf_desk.specs.Laws.Commits.{job_of_task}
use Rattle.wf_desk.specs.Desks.{DeskShape, next_job}
use Rattle.wf_desk.proofs.NextJobs.{one_next, stands_next}
use Rattle.wf_desk.proofs.desk.Desk.is_next.Goals as goal

pub returns : goal.returns
returns c =
    let d = c.args.self.now in
    let t = c.args.task.now in
    let own = c.job_here-next.result.now in
    let stands = stands_next _ c.self.inside.places t.lane _ own c.self.invariant.desk (rw (← c.self.view_is) at c.requires) c.batch_of.ensures
    c.job_here-next.ensures in
    let here = subst (λ (e : DeskShape). next_job e t.lane ≡ Some own) c.self.view_is stands.here in (
      (λ is. here ∙ ap (λ (j : Job). Some j) (c.is_job_of.ensures.0 is)),
      (λ next. c.is_job_of.ensures.1 (one_next d t.lane own (job_of_task t) here next)),
    )
