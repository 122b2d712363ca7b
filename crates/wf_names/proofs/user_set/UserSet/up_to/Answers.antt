use Rattle.std.proofs.Common.{ℕ, length, ap, sym, subst, ◌∙◌, arith, length-set}
use Rattle.std.proofs.lemmas.List.{length-replicate}
use Rattle.wf_names.specs.declared.user_set.TheConstants.{USER_WORDS}
use Rattle.wf_names.proofs.LowBits.{AreFull, full_next, none_full, up_to_partly, up_to_whole}
use Rattle.wf_names.proofs.user_set.UserSet.up_to.Goals as goal

pub words-init : goal.words-init
words-init c =
    (subst (AreFull 0) (sym c.no_words-words.ensures) (none_full USER_WORDS), ap length c.no_words-words.ensures ∙ length-replicate {A = ℕ} USER_WORDS 0)

pub words-preserved : goal.words-preserved
words-preserved c = grind (arith, full_next, length-set)

pub returns : goal.returns
returns c = grind (arith, up_to_partly, up_to_whole)
