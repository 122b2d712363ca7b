use Rattle.std.proofs.Common.{◌-◌, ap, ◌∙◌}
use Rattle.std.proofs.lemmas.Nat.{one_shl}
use Rattle.wf_names.specs.UserSets.{has_bit}
use Rattle.wf_names.proofs.LowBits.{lowest_bits}
use Rattle.wf_names.proofs.user_set.low_bits.Goals as goal

pub returns : goal.returns
returns c = λ k. ap (λ x. has_bit (x - 1) k) (one_shl c.args.count 64 c.requires) ∙ lowest_bits c.args.count k
