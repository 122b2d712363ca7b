use Rattle.std.proofs.Common.{◌≡◌, Some, sym, subst}
use Rattle.wf_talk.specs.declared.job.Job.{Job}
use Rattle.wf_board.specs.Boards.{state_on}
use Rattle.wf_board.specs.Verdicts.{IsRight}
use Rattle.wf_desk.specs.Desks.{DeskShape, next_job}
use Rattle.wf_desk.proofs.CommitLaws.{serve_keeps}
use Rattle.wf_desk.proofs.DeskLaws.{desk_small, few_edits, has_room, stands_here}
use Rattle.wf_desk.proofs.NextJobs.{one_next, place_within, stands_next}
use Rattle.wf_desk.proofs.Serving.{added_parts}
use Rattle.wf_desk.proofs.desk.Desk.serve.Goals as goal

pub job_here-job-requires : goal.job_here-job-requires
job_here-job-requires g c =
    place_within _ c.self.inside.places c.args.lane _ c.self.invariant.desk (rw (← c.self.view_is) at c.requires.lane) c.batch_of.ensures
    (c.requires.right.0, rw (← c.self.view_is) at c.requires.right.1.0)

pub add_entry-at-requires-clause-room : goal.add_entry-at-requires-clause-room
add_entry-at-requires-clause-room g c =
    let stands = stands_next _ c.self.inside.places c.args.lane _ c.job_here-job.result.now c.self.invariant.desk (rw (← c.self.view_is) at c.requires.lane)
    c.batch_of.ensures c.job_here-job.ensures in
    has_room _ _ c.args.lane c.job_here-job.result.now c.self.invariant.desk stands.here

pub add_entry-at-requires-clause-small : goal.add_entry-at-requires-clause-small
add_entry-at-requires-clause-small g c = desk_small _ _ c.self.invariant.desk

pub go_on-requires-clause-here : goal.go_on-requires-clause-here
go_on-requires-clause-here g c =
    let stands = stands_next _ c.self.inside.places c.args.lane _ c.job_here-job.result.now c.self.invariant.desk (rw (← c.self.view_is) at c.requires.lane)
    c.batch_of.ensures c.job_here-job.ensures in
    rw c.batch_of-2.ensures (stands_here _ _ c.job_here-job.result.now.lane c.job_here-job.result.now c.self.invariant.desk stands.known stands.next)

pub decide-reply-requires-clause-few : goal.decide-reply-requires-clause-few
decide-reply-requires-clause-few g c =
    let stands = stands_next _ c.self.inside.places c.args.lane _ c.job_here-job.result.now c.self.invariant.desk (rw (← c.self.view_is) at c.requires.lane)
    c.batch_of.ensures c.job_here-job.ensures in
    few_edits _ _ c.args.lane c.job_here-job.result.now c.self.invariant.desk stands.here

pub decide-reply-requires-clause-right : goal.decide-reply-requires-clause-right
decide-reply-requires-clause-right g c =
    let d = c.args.self.now in
    let job = c.job_here-job.result.now in
    let stands = stands_next _ c.self.inside.places c.args.lane _ c.job_here-job.result.now c.self.invariant.desk (rw (← c.self.view_is) at c.requires.lane)
    c.batch_of.ensures c.job_here-job.ensures in
    let here = subst (λ (e : DeskShape). next_job e c.args.lane ≡ Some job) c.self.view_is stands.here in
    let same = one_next d c.args.lane c.requires.right.0 job c.requires.right.1.0 here in
    subst (λ (e : DeskShape). IsRight (state_on e.board).book job.ask c.args.verdict) (sym c.self.view_is)
    (subst (λ (j : Job). IsRight (state_on d.board).book j.ask c.args.verdict) same c.requires.right.1.1)

pub invariant_of-self : goal.invariant_of-self
invariant_of-self g c =
    let stands = stands_next _ c.self.inside.places c.args.lane _ c.job_here-job.result.now c.self.invariant.desk (rw (← c.self.view_is) at c.requires.lane)
    c.batch_of.ensures c.job_here-job.ensures in
    record {
      desk = serve_keeps _ c.self.inside.places c.go_on.new.places c.job_here-job.result.now c.args.verdict c.decide-reply.result
          c.add_entry-at.new.journal.entries c.decide-reply.new.self
          c.add_entry-at.new.journal.spare c.no_loss.result c.self.invariant.desk
          stands.known c.go_on.ensures.sized stands.next c.decide-reply.ensures.decided
          c.decide-reply.ensures.next
          c.decide-reply.ensures.room c.add_entry-at.ensures.room c.add_entry-at.ensures.added c.no_loss.ensures
          (rw c.batch_of-2.ensures at c.go_on.ensures.moved);
      begins = c.self.invariant.begins;
    }

pub returns : goal.returns
returns g c job next =
    let d = c.args.self.now in
    let own = c.job_here-job.result.now in
    let stands = stands_next _ c.self.inside.places c.args.lane _ c.job_here-job.result.now c.self.invariant.desk (rw (← c.self.view_is) at c.requires.lane)
    c.batch_of.ensures c.job_here-job.ensures in
    let here = subst (λ (e : DeskShape). next_job e c.args.lane ≡ Some own) c.self.view_is stands.here in
    added_parts _ d own job c.args.verdict c.decide-reply.result c.add_entry-at.new.journal.entries c.decide-reply.new.self
    c.add_entry-at.new.journal.spare c.no_loss.result c.add_entry-at.result c.self.view_is (one_next d c.args.lane own job here next)
    c.decide-reply.ensures.decided c.decide-reply.ensures.left.lacking c.add_entry-at.ensures.at c.add_entry-at.ensures.added c.no_loss.ensures
