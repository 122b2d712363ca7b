use Rattle.policy_reader.proofs.PairSets.{len_insert}
use Rattle.policy_reader.proofs.Words.{all_insert}
use Rattle.policy_reader.proofs.pairs.next_pair.Goals as goal

pub returns-then-branch-clause-within : goal.returns-then-branch-clause-within
returns-then-branch-clause-within g c =
    rw c.in_ok-put.ensures.added
    (all_insert _ (g.P.PairSet.held c.args.pairs.now) c.in_ok-a.a c.in_ok-a.b (c.in_ok-a.ensures.first, c.in_ok-a.ensures.second) c.requires.within)

pub returns-then-branch-clause-len : goal.returns-then-branch-clause-len
returns-then-branch-clause-len g c = rw c.in_ok-put.ensures.added (len_insert _ _)
