use Rattle.policy_reader.proofs.Words.{refl}
use Rattle.policy_reader.proofs.Orders.{permits_insert}
use Rattle.policy_reader.proofs.workflows.next_permitted.Goals as goal

pub returns-then-permit-clause-kept : goal.returns-then-permit-clause-kept
returns-then-permit-clause-kept c =
    rw c.permit.ensures.permitted (record { steps = refl; roles = permits_insert _ _ _ _ c.requires.roles c.in_ok-role.ensures.within })
