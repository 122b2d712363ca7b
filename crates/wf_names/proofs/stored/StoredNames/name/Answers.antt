use Rattle.std.proofs.Common.{arith}
use Rattle.wf_names.proofs.Places.{place_of-name}
use Rattle.wf_names.proofs.stored.StoredNames.name.Goals as goal

pub returns-clause-alone : goal.returns-clause-alone
returns-clause-alone c = grind (arith, place_of-name)
