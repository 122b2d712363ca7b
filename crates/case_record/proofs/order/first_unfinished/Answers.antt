use Rattle.std.proofs.Common.{arith}
use Rattle.basics.proofs.Booleans.{differ}
use Rattle.case_record.proofs.Missing.{passed_over, one_more}
use Rattle.case_record.proofs.order.first_unfinished.Goals as goal

pub steps-preserved : goal.steps-preserved
steps-preserved c = grind (arith, passed_over, one_more, differ)
