use Rattle.policy_reader.proofs.Words.{all_empty}
use Rattle.workflow_schema.proofs.Kept.{few_steps}
use Rattle.policy_reader.proofs.workflows.read_order.Goals as goal

pub read_pairs-requires-clause-few : goal.read_pairs-requires-clause-few
read_pairs-requires-clause-few c = few_steps _ c.requires

pub returns-in_default-clause-within : goal.returns-in_default-clause-within
returns-in_default-clause-within c = rw c.new.ensures (all_empty _)
