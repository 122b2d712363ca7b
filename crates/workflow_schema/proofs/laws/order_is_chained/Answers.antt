use Rattle.std.proofs.Common.{refl}
use Rattle.workflow_schema.specs.Flows.{is_before}
use Rattle.workflow_schema.proofs.Chains.{append, before_is_chain, chain_is_before}
use Rattle.workflow_schema.proofs.Kept.{tells_chains}
use Rattle.workflow_schema.proofs.laws.order_is_chained.Goals as goal

pub returns-clause-test : goal.returns-clause-test
returns-clause-test c f s t kept = tells_chains f s t (is_before f.order s t) kept refl

pub returns-clause-chained : goal.returns-clause-chained
returns-clause-chained c f s t u h r = append h r

pub returns-clause-decided : goal.returns-clause-decided
returns-clause-decided c pairs s t small = (before_is_chain pairs s t, chain_is_before pairs s t small)
