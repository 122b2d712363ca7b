-- Inside: a session that is to go on from a transcript.
use Rattle.std.specs.Prelude.{◌≡◌, ℕ, ◌<◌, ◌≤◌, [], length}
use Rattle.wf_names.specs.declared.limits.TheConstants.{LANE_LIMIT, ROUND_LIMIT}
use Rattle.policy_book.specs.Laws.Shapes.{PolicyShape}
use Rattle.wf_desk.specs.Desks.{DeskShape, IsDone}
use Rattle.line_reader.specs.declared.jobs.Batch.{Batch}
use Rattle.transcript_commands.specs.Resumed.{Session}

-- there are some lanes, and not too many lanes and rounds
pub record AreServedWithin (lanes rounds : ℕ) : Type 0 where
  pub some : 0 < lanes
  pub few_lanes : lanes ≤ LANE_LIMIT
  pub few_rounds : rounds ≤ ROUND_LIMIT

-- the session of a policy that is served so and answers these jobs
abbrev pub session_over : PolicyShape → ℕ → ℕ → Batch → Session
session_over p lanes rounds batch = record {
  policy = p;
  lanes = lanes;
  rounds = rounds;
  jobs = batch.jobs;
  batch_ends = batch.ends;
}

-- only entries stand at a desk, and no job
pub record IsRestored (d : DeskShape) : Type 0 where
  pub earlier : d.earlier ≡ []
  pub jobs : d.jobs ≡ []
  pub done : IsDone d
  pub entries : d.restored ≡ length d.entries

-- the session of such a desk that answers these jobs
abbrev pub session_at : DeskShape → Batch → Session
session_at d batch = session_over d.opening d.lanes d.rounds batch
