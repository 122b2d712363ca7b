use Rattle.wf_names.specs.declared.limits.TheConstants.{STEP_LIMIT}
use Rattle.workflow_schema.proofs.TableSets.{pairs_in-none}
use Rattle.workflow_schema.proofs.pairs.StepPairs.new.Goals as goal

pub returns : goal.returns
returns c = pairs_in-none STEP_LIMIT
