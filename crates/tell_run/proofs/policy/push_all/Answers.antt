use Rattle.std.proofs.Common.{Bool, sym, subst}
use Rattle.tell_run.specs.Policy.{JudgesFile}
use Rattle.tell_run.proofs.Telling.{judged}
use Rattle.tell_run.proofs.policy.push_all.Goals as goal

pub returns : goal.returns
returns c file is =
    subst (λ (found : Bool). JudgesFile file found) (sym c.either-found.ensures) (judged c.args.p.now file c.in_ok-lacks.lacks _ c.in_ok-lacks.ensures is)
