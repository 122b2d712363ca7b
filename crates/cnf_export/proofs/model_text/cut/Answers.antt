use Rattle.std.proofs.Common.{ℕ, Option, subst}
use Rattle.memchr.specs.Find.{IsFirstByte}
use Rattle.cnf_export.proofs.Splits.{parted}
use Rattle.cnf_export.proofs.model_text.cut.Goals as goal

pub returns-in-Some-clause-parts : goal.returns-in-Some-clause-parts
returns-in-Some-clause-parts c test found =
    parted test c.args.text.now c.split_at.result.0.now c.split_at.result.1.now c.in-Some.n
    (subst (λ (at : Option ℕ). IsFirstByte test c.args.text.now at) c.in-Some.is found) c.split_at.ensures.front c.split_at.ensures.back
