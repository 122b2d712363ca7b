use Rattle.std.proofs.Common.{◌-◌, arith, drop, refl, slice_index_or, subst, sym, take, ◌∙◌}
use Rattle.wf_desk.specs.Desks.{AreOfLanes}
use Rattle.trial_command.specs.declared.session.TheConstants.{LANES}
use Rattle.trial_command.proofs.Batches.{end_within_jobs, next_start, part_of_lanes, served_next}
use Rattle.trial_command.proofs.session.serve_batches.Goals as goal

pub slice_bounds-serve_batch-end : goal.slice_bounds-serve_batch-end
slice_bounds-serve_batch-end g c =
    let within = end_within_jobs _ c.batches.end-index c.args.batch_ends.now c.requires.jobs.batches c.batches-test.true in
    grind (arith, within)

pub serve_batch-requires-clause-lanes : goal.serve_batch-requires-clause-lanes
serve_batch-requires-clause-lanes g c =
    let stop = slice_index_or c.args.batch_ends.now c.batches.end-index 0 in
    subst (λ n. AreOfLanes n (take (stop - c.batches.start) (drop c.batches.start c.args.jobs.now)))
    (sym (c.batches.invariant.served.same.lanes ∙ c.requires.lanes))
    (part_of_lanes LANES c.batches.start (stop - c.batches.start) c.args.jobs.now c.requires.jobs.lanes)

pub batches-preserved : goal.batches-preserved
batches-preserved g c = record {
  served = served_next c.args.desk.now c.batches.desk c.serve_batch.new.desk c.args.jobs.now c.args.batch_ends.now c.batches.end-index c.batches.start _
      c.requires.jobs.batches c.batches-test.true refl c.batches.invariant.start c.batches.invariant.within
      c.batches.invariant.served c.in_ok-serve_batch.ensures;
  start = next_start c.args.batch_ends.now c.batches.end-index;
  within = end_within_jobs _ c.batches.end-index c.args.batch_ends.now c.requires.jobs.batches c.batches-test.true;
}
