use Rattle.std.proofs.Common.{◌≡◌, Some, ap, length, sym, subst}
use Rattle.wf_talk.specs.declared.job.Job.{Job}
use Rattle.wf_board.specs.declared.verdict.Verdict.TheVariants as verdicts
use Rattle.wf_board.specs.Deeds.{IsUndecided}
use Rattle.wf_desk.specs.Desks.{DeskShape, next_job}
use Rattle.wf_desk.proofs.CommitLaws.{serve_keeps}
use Rattle.wf_desk.proofs.DeskLaws.{desk_small, has_room, stands_here}
use Rattle.wf_desk.proofs.NextJobs.{one_next, place_within, stands_next}
use Rattle.wf_desk.proofs.Serving.{added_parts}
use Rattle.wf_desk.proofs.desk.Desk.serve_plan.Goals as goal

pub job_here-job-requires : goal.job_here-job-requires
job_here-job-requires c =
    place_within _ c.self.inside.places c.args.lane _ c.self.invariant.desk (rw (← c.self.view_is) at c.requires.lane) c.batch_of.ensures
    (c.requires.left.0, rw (← c.self.view_is) at c.requires.left.1.0)

pub add_entry-requires-clause-room : goal.add_entry-requires-clause-room
add_entry-requires-clause-room c =
    let stands = stands_next _ c.self.inside.places c.args.lane _ c.job_here-job.result.now c.self.invariant.desk (rw (← c.self.view_is) at c.requires.lane)
    c.batch_of.ensures c.job_here-job.ensures in
    has_room _ _ c.args.lane c.job_here-job.result.now c.self.invariant.desk stands.here

pub add_entry-requires-clause-small : goal.add_entry-requires-clause-small
add_entry-requires-clause-small c = desk_small _ _ c.self.invariant.desk

pub go_on-requires-clause-here : goal.go_on-requires-clause-here
go_on-requires-clause-here c =
    let stands = stands_next _ c.self.inside.places c.args.lane _ c.job_here-job.result.now c.self.invariant.desk (rw (← c.self.view_is) at c.requires.lane)
    c.batch_of.ensures c.job_here-job.ensures in
    rw c.batch_of-2.ensures (stands_here _ _ c.job_here-job.result.now.lane c.job_here-job.result.now c.self.invariant.desk stands.known stands.next)

pub take_plan-reply-requires-clause-undecided : goal.take_plan-reply-requires-clause-undecided
take_plan-reply-requires-clause-undecided c =
    let d = c.args.self.now in
    let job = c.job_here-job.result.now in
    let stands = stands_next _ c.self.inside.places c.args.lane _ c.job_here-job.result.now c.self.invariant.desk (rw (← c.self.view_is) at c.requires.lane)
    c.batch_of.ensures c.job_here-job.ensures in
    let here = subst (λ (e : DeskShape). next_job e c.args.lane ≡ Some job) c.self.view_is stands.here in
    let same = one_next d c.args.lane c.requires.left.0 job c.requires.left.1.0 here in
    subst (λ (e : DeskShape). IsUndecided e.board.policy e.board.cases job.ask c.args.deed) (sym c.self.view_is)
    (subst (λ (j : Job). IsUndecided d.board.policy d.board.cases j.ask c.args.deed) same c.requires.left.1.1)

pub invariant_of-self : goal.invariant_of-self
invariant_of-self c =
    let stands = stands_next _ c.self.inside.places c.args.lane _ c.job_here-job.result.now c.self.invariant.desk (rw (← c.self.view_is) at c.requires.lane)
    c.batch_of.ensures c.job_here-job.ensures in
    record {
      desk = serve_keeps _ c.self.inside.places c.go_on.new.places c.job_here-job.result.now (verdicts.Plan c.args.plan) c.take_plan-reply.result
          c.add_entry.new.journal.entries c.take_plan-reply.new.self
          c.add_entry.new.journal.spare c.no_loss.result c.self.invariant.desk
          stands.known c.go_on.ensures.sized stands.next c.take_plan-reply.ensures.decided
          c.take_plan-reply.ensures.next
          c.take_plan-reply.ensures.room c.add_entry.ensures.room c.add_entry.ensures.added c.no_loss.ensures
          (rw c.batch_of-2.ensures at c.go_on.ensures.moved);
      begins = c.self.invariant.begins;
    }

pub returns : goal.returns
returns c job next =
    let d = c.args.self.now in
    let own = c.job_here-job.result.now in
    let stands = stands_next _ c.self.inside.places c.args.lane _ c.job_here-job.result.now c.self.invariant.desk (rw (← c.self.view_is) at c.requires.lane)
    c.batch_of.ensures c.job_here-job.ensures in
    let here = subst (λ (e : DeskShape). next_job e c.args.lane ≡ Some own) c.self.view_is stands.here in
    added_parts _ d own job (verdicts.Plan c.args.plan) c.take_plan-reply.result c.add_entry.new.journal.entries c.take_plan-reply.new.self
    c.add_entry.new.journal.spare c.no_loss.result (length d.entries) c.self.view_is (one_next d c.args.lane own job here next)
    c.take_plan-reply.ensures.decided c.take_plan-reply.ensures.lacking (ap (λ (e : DeskShape). length e.entries) (sym c.self.view_is))
    c.add_entry.ensures.added c.no_loss.ensures
