use Rattle.std.proofs.Common.{ap, ◌∙◌}
use Rattle.wf_names.specs.declared.user_set.TheConstants.{USER_WORDS}
use Rattle.wf_names.specs.UserSets.{has_user}
use Rattle.wf_names.proofs.LowBits.{none_in}
use Rattle.wf_names.proofs.user_set.UserSet.empty.Goals as goal

pub returns : goal.returns
returns c = record { none = λ v. ap (λ words. has_user words v) c.no_words.ensures ∙ none_in USER_WORDS v }
