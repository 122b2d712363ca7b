-- Inside: how the search for what an audit finds may end.
use Rattle.std.specs.Prelude.{ℕ, ◌<◌, ◌≤◌, IfErr, Result}
use Rattle.wf_names.specs.declared.limits.TheConstants.{LANE_LIMIT}
use Rattle.wf_outside.specs.Laws.Outside.{Filed}
use Rattle.run_record.specs.declared.fault.RunFault.{RunFault}
use Rattle.run_record.specs.Fault.{fault_in}
use Rattle.transcript_commands.specs.declared.finding.Finding.{Finding}
use Rattle.transcript_commands.specs.Audit.{EndsWithout}
use Rattle.transcript_commands.specs.Steps.{IsAuditEnding}

-- a session has at least one lane, and no more than it may have
pub record IsOnLanes (lanes : ℕ) : Type 0 where
  pub some : 0 < lanes
  pub most : lanes ≤ LANE_LIMIT

-- a fault is one with which an audit may end; without its requests it ends while it loads
pub record EndsFinding (requests : Filed) (result : Result Finding RunFault) : Type 0 where
  pub ending : IfErr result IsAuditEnding
  pub without : EndsWithout requests (fault_in result)
