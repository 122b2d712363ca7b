use Rattle.std.proofs.Common.{arith}
use Rattle.certificate_check.proofs.Rows.{read_alike}
use Rattle.certificate_check.proofs.alike.read_before.Goals as goal

pub returns-then-reads_as : goal.returns-then-reads_as
returns-then-reads_as c = grind (arith, read_alike)
