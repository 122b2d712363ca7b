use Rattle.std.proofs.Common.{◌≡◌, true, false, sym, subst}
use Rattle.wf_board.specs.Boards.{state_on}
use Rattle.wf_board.specs.Verdicts.{IsCertified}
use Rattle.wf_board.proofs.Certificates.{certified_right}
use Rattle.wf_desk.specs.Laws.Commits.{job_of_task}
use Rattle.wf_desk.proofs.CommitLaws.{checked_none}
use Rattle.wf_desk.proofs.Serving.{checked_some}
use Rattle.wf_desk.proofs.desk.Desk.commit_checked.Goals as goal

pub serve-requires-clause-right : goal.serve-requires-clause-right
serve-requires-clause-right g c =
    let t = c.args.task.now in (
      job_of_task t,
      (
        c.is_next.ensures.0 c.if-not-is_next.false,
        certified_right (state_on c.args.self.now.board).book t.ask c.args.verdict
            (subst (λ d. IsCertified (state_on d.board).book t.ask c.args.verdict) c.self.view_is (c.accepts.ensures.0 c.if-accepts.true)),
      ),
    )

pub returns-else-accepts : goal.returns-else-accepts
returns-else-accepts g c =
    let t = c.args.task.now in
    checked_none c.args.self.now c.commit_none.new.self t c.args.verdict c.commit_none.result (c.is_next.ensures.0 c.if-not-is_next.false)
    (λ certified. let is : c.accepts.result ≡ true =
    c.accepts.ensures.1 (subst (λ e. IsCertified (state_on e.board).book t.ask c.args.verdict) (sym c.self.view_is) certified) in
    let no : c.accepts.result ≡ false = c.if-accepts.false in absurd (cc))
    c.commit_none.ensures

pub returns-then-accepts : goal.returns-then-accepts
returns-then-accepts g c =
    let d = c.args.self.now in
    let t = c.args.task.now in
    let next = c.is_next.ensures.0 c.if-not-is_next.false in
    checked_some d c.serve.new.self t c.args.verdict c.serve.result next
    (subst (λ e. IsCertified (state_on e.board).book t.ask c.args.verdict) c.self.view_is (c.accepts.ensures.0 c.if-accepts.true))
    (c.serve.ensures (job_of_task t) next)
