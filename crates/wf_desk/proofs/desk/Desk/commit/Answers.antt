use Rattle.std.proofs.Common.{sym, subst, ◌∙◌}
use Rattle.wf_desk.specs.Laws.Commits.{IsReplyWhere, is_lost, job_of_task}
use Rattle.wf_desk.specs.Desks.{HasAdded}
use Rattle.wf_desk.proofs.Serving.{missed_committed}
use Rattle.wf_desk.proofs.desk.Desk.commit.Goals as goal

pub returns-then-is_fresh : goal.returns-then-is_fresh
returns-then-is_fresh g c =
    let d = c.args.self.now in
    let t = c.args.task.now in
    let next = c.is_next.ensures.0 c.if-not-is_next.false in (
      next,
      subst (λ b. HasAdded d c.serve.new.self (job_of_task t) c.serve.result (IsReplyWhere b (is_lost d t) d t c.args.verdict))
          (sym c.if-is_fresh.true ∙ c.is_fresh.ensures.fresh) (c.serve.ensures (job_of_task t) next),
    )

pub returns : goal.returns
returns g c =
    missed_committed c.args.self.now c.miss.new.self c.args.task.now c.args.verdict c.miss.result (c.is_next.ensures.0 c.if-not-is_next.false)
    (sym c.is_fresh.ensures.fresh ∙ c.if-is_fresh.false) c.miss.ensures
