use Rattle.std.proofs.Common.{◌≡◌, length}
use Rattle.wf_names.specs.declared.user_set.TheConstants.{USER_WORDS}
use Rattle.wf_names.proofs.LowBits.{AreFull}
use Rattle.wf_names.proofs.user_set.UserSet.up_to.Given as goal

abbrev pub invariant-words : goal.invariant-words
invariant-words l = AreFull l.i l.words × (length l.words ≡ USER_WORDS)
