use Rattle.std.proofs.Common.{◌≤◌, refl, subst, ap, ◌∙◌, slice_index_or, arith}
use Rattle.wf_desk.specs.Docket.{IsNextPlace}
use Rattle.transcript_audit.specs.Keeping.{part}
use Rattle.transcript_audit.proofs.Batches.{slice_part}
use Rattle.transcript_audit.proofs.cursor.first.Goals as goal

pub returns : goal.returns
returns c =
    let start = c.args.start in
    let jobs = c.args.jobs.now in
    let end = c.end_of-end.result in
    let begins : start ≤ end = let is = c.end_of-end.ensures in let first = c.requires.begins in omega (arith, is, first) in
    record {
      batch = refl;
      begins = refl;
      stops = c.end_of-end.ensures;
      placed = λ lane known.
          subst (λ js. IsNextPlace js lane 0 (slice_index_or c.first_places.result lane 0))
          (slice_part start end jobs begins ∙ ap (λ n. part start n jobs) c.end_of-end.ensures)
          (c.first_places.ensures lane known);
    }
