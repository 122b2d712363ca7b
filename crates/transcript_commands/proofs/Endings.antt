-- How the search for a finding ends.
use Rattle.transcript_commands.proofs.Common.{◌≡◌, Result, arith, IfErr, IsErrAnd, Filed, RunFault, fault_in, IsLoadEnding, Finding, EndsWithout, IsAuditEnding}
use Rattle.transcript_commands.proofs.Common.{IsReadEnding}
use Rattle.transcript_commands.specs.Run.{EndsFinding}

load_is : (fault : RunFault) → IsLoadEnding fault → IsAuditEnding fault
load_is fault ending = grind arith

load_without : (filed : Filed) (fault : RunFault) → IsLoadEnding fault → EndsWithout filed fault
load_without filed fault ending = grind arith

-- a file could not be loaded
pub loads_end : (filed : Filed) (result : Result Finding RunFault) (fault : RunFault) → IsErrAnd result (λ e. e ≡ fault) → IsLoadEnding fault →
    EndsFinding filed result
loads_end filed result fault is ending = grind (arith, load_is, load_without)

read_is : (fault : RunFault) → IsReadEnding fault → IsAuditEnding fault
read_is fault ending = grind arith

-- the files are loaded
pub reads_end : (filed : Filed) (result : Result Finding RunFault) → IfErr result IsReadEnding → EndsWithout filed (fault_in result) →
    EndsFinding filed result
reads_end filed result ending without = grind (arith, read_is)
