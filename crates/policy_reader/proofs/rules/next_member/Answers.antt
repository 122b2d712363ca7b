use Rattle.policy_reader.proofs.Words.{arith}
use Rattle.policy_reader.proofs.Held.{any_set}
use Rattle.policy_reader.proofs.rules.next_member.Goals as goal

pub returns-clause-some : goal.returns-clause-some
returns-clause-some c = rw c.with.ensures.value
    (any_set 0 c.in_ok-number.number _ (omega (arith, c.has.ensures.len, c.in_ok-number.ensures.within, c.args.scope.now.few)))
