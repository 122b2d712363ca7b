use Rattle.std.proofs.Common.{◌≡◌, ◌≤◌, length, take}
use Rattle.wf_board.specs.Laws.Histories.{batch_start}
use Rattle.trial_command.specs.Serving.{HasServedAll}
use Rattle.trial_command.proofs.session.serve_batches.Given as goal

abbrev pub invariant-batches : goal.invariant-batches
invariant-batches g l =
    record {
      served : HasServedAll l.fn.desk l.desk (take l.start l.jobs) (take l.end-index l.batch_ends);
      start : l.start ≡ batch_start l.batch_ends l.end-index;
      within : l.start ≤ length l.jobs;
    }
