use Rattle.std.proofs.Common.{sym, subst, ◌∙◌}
use Rattle.wf_board.specs.declared.verdict.Verdict.TheVariants as verdicts
use Rattle.wf_desk.specs.Laws.Commits.{IsReplyWhere, is_lost, job_of_task}
use Rattle.wf_desk.specs.Desks.{HasAdded}
use Rattle.wf_desk.proofs.desk.Desk.commit_none.Goals as goal

pub returns-then-is_fresh_or_change : goal.returns-then-is_fresh_or_change
returns-then-is_fresh_or_change g c =
    let d = c.args.self.now in
    let t = c.args.task.now in
    subst (λ b. HasAdded d c.serve.new.self (job_of_task t) c.serve.result (IsReplyWhere b (is_lost d t) d t verdicts.Nothing))
    (sym c.if-is_fresh_or_change.true ∙ c.is_fresh_or_change.ensures.kept) (c.serve.ensures (job_of_task t) c.requires.next)
