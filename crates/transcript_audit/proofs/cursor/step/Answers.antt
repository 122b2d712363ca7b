use Rattle.std.proofs.Common.{◌+◌, subst, ap, slice_index_or}
use Rattle.wf_desk.specs.Docket.{IsNextPlace}
use Rattle.transcript_audit.specs.declared.cursor.Cursor.{Cursor}
use Rattle.transcript_audit.proofs.Batches.{slice_part}
use Rattle.transcript_audit.proofs.cursor.step.Goals as goal

pub returns : goal.returns
returns c =
    let before : Cursor = c.args.cursor.now in
    let lane = c.args.lane in
    let moved = c.go_on.ensures.moved in
    record {
      place = moved.0;
      sized = c.go_on.ensures.sized;
      kept = ap (λ ps. record before { places = ps }) moved.1.0;
      moved = subst (λ js. IsNextPlace js lane (slice_index_or before.places lane 0 + 1) moved.0)
          (slice_part before.start before.end c.args.jobs.now c.requires.order) moved.1.1;
    }
