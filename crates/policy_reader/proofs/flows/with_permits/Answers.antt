use Rattle.policy_reader.proofs.PairSets.{none_permitted}
use Rattle.policy_reader.proofs.flows.with_permits.Goals as goal

pub read_permits-requires : goal.read_permits-requires
read_permits-requires c = record { roles = none_permitted _ c.args.made c.requires.bare }
