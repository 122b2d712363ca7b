use Rattle.std.proofs.Common.{◌≡◌, Some, ap, length, sym, subst}
use Rattle.wf_board.specs.declared.verdict.Stepped.TheVariants.{Done}
use Rattle.wf_board.specs.declared.verdict.Verdict.TheVariants as verdicts
use Rattle.wf_desk.specs.Desks.{DeskShape, next_job}
use Rattle.wf_desk.proofs.CommitLaws.{serve_keeps}
use Rattle.wf_desk.proofs.DeskLaws.{desk_small, has_room, stands_here}
use Rattle.wf_desk.proofs.NextJobs.{one_next, place_within, stands_next}
use Rattle.wf_desk.proofs.Serving.{added_parts, looked_left, needs_none}
use Rattle.wf_desk.proofs.desk.Desk.look_at.Goals as goal

pub job_here-job-requires : goal.job_here-job-requires
job_here-job-requires c =
    place_within _ c.self.inside.places c.args.lane _ c.self.invariant.desk (rw (← c.self.view_is) at c.requires.lane) c.batch_of.ensures
    (c.requires.next.0, rw (← c.self.view_is) at c.requires.next.1)

pub add_entry-requires-clause-room : goal.add_entry-requires-clause-room
add_entry-requires-clause-room c =
    let stands = stands_next _ c.self.inside.places c.args.lane _ c.job_here-job.result.now c.self.invariant.desk (rw (← c.self.view_is) at c.requires.lane)
    c.batch_of.ensures c.job_here-job.ensures in
    has_room _ _ c.args.lane c.job_here-job.result.now c.self.invariant.desk stands.here

pub add_entry-requires-clause-small : goal.add_entry-requires-clause-small
add_entry-requires-clause-small c = desk_small _ _ c.self.invariant.desk

pub go_on-requires-clause-here : goal.go_on-requires-clause-here
go_on-requires-clause-here c =
    let stands = stands_next _ c.self.inside.places c.args.lane _ c.job_here-job.result.now c.self.invariant.desk (rw (← c.self.view_is) at c.requires.lane)
    c.batch_of.ensures c.job_here-job.ensures in
    rw c.batch_of-in-Done.ensures (stands_here _ _ c.job_here-job.result.now.lane c.job_here-job.result.now c.self.invariant.desk stands.known stands.next)

pub invariant_of-self-in-Done : goal.invariant_of-self-in-Done
invariant_of-self-in-Done c =
    let stands = stands_next _ c.self.inside.places c.args.lane _ c.job_here-job.result.now c.self.invariant.desk (rw (← c.self.view_is) at c.requires.lane)
    c.batch_of.ensures c.job_here-job.ensures in
    record {
      desk = serve_keeps _ c.self.inside.places c.go_on.new.places c.job_here-job.result.now verdicts.Nothing c.in-Done.reply c.add_entry.new.journal.entries
          c.step.new.self c.add_entry.new.journal.spare c.no_loss.result c.self.invariant.desk
          stands.known c.go_on.ensures.sized stands.next c.in-Done.ensures.stepped.0
          c.in-Done.ensures.stepped.1.0
          c.in-Done.ensures.room c.add_entry.ensures.room c.add_entry.ensures.added c.no_loss.ensures (rw c.batch_of-in-Done.ensures at c.go_on.ensures.moved);
      begins = c.self.invariant.begins;
    }

pub returns-in-Done : goal.returns-in-Done
returns-in-Done c job next =
    let d = c.args.self.now in
    let own = c.job_here-job.result.now in
    let stands = stands_next _ c.self.inside.places c.args.lane _ c.job_here-job.result.now c.self.invariant.desk (rw (← c.self.view_is) at c.requires.lane)
    c.batch_of.ensures c.job_here-job.ensures in
    let here = subst (λ (e : DeskShape). next_job e c.args.lane ≡ Some own) c.self.view_is stands.here in
    let same = one_next d c.args.lane own job here next in (
      added_parts _ d own job verdicts.Nothing c.in-Done.reply c.add_entry.new.journal.entries c.step.new.self c.add_entry.new.journal.spare
          c.no_loss.result (length d.entries) c.self.view_is same c.in-Done.ensures.stepped.0
          (λ short. c.in-Done.ensures.lacking (ap (λ r. Done r) short)) (ap (λ (e : DeskShape). length e.entries) (sym c.self.view_is))
          c.add_entry.ensures.added c.no_loss.ensures,
      needs_none _ d own job c.self.view_is same c.in-Done.ensures.stepped.1.1,
    )

pub returns-in-Undecided : goal.returns-in-Undecided
returns-in-Undecided c job next =
    let d = c.args.self.now in
    let own = c.job_here-job.result.now in
    let stands = stands_next _ c.self.inside.places c.args.lane _ c.job_here-job.result.now c.self.invariant.desk (rw (← c.self.view_is) at c.requires.lane)
    c.batch_of.ensures c.job_here-job.ensures in
    let here = subst (λ (e : DeskShape). next_job e c.args.lane ≡ Some own) c.self.view_is stands.here in
    looked_left _ d c.step.new.self own job c.in-Undecided.deed c.self.view_is (one_next d c.args.lane own job here next)
    c.in-Undecided.ensures.stepped.0 c.in-Undecided.ensures.stepped.1
