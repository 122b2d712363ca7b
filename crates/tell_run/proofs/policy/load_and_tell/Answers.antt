use Rattle.std.proofs.Common.{List, ℕ, subst}
use Rattle.tell_run.specs.Policy.{JudgesFile}
use Rattle.tell_run.proofs.policy.load_and_tell.Goals as goal

pub returns-clause-judges : goal.returns-clause-judges
returns-clause-judges g c = (
  c.in_ok-file.file,
  (c.in_ok-file.ensures.bytes, subst (λ (file : List ℕ). JudgesFile file c.in_ok-tell_file.field-0.found) c.as_bytes.ensures c.in_ok-tell_file.ensures),
)
