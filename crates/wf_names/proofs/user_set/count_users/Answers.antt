use Rattle.std.proofs.Common.{◌*◌, ap, sym, ◌∙◌, arith, count_ones}
use Rattle.std.specs.List.{sum_by}
use Rattle.std.proofs.lemmas.List.{take_all}
use Rattle.wf_names.specs.declared.user_set.TheConstants.{USER_WORDS}
use Rattle.wf_names.specs.UserSets.{has_user}
use Rattle.wf_names.proofs.Counts.{users_counted, count_within}
use Rattle.wf_names.proofs.user_set.count_users.Goals as goal

pub returns : goal.returns
returns c =
    let words = c.args.words.now in
    c.count_words.ensures
    ∙ ap (sum_by count_ones) (sym (take_all USER_WORDS words (omega (arith, c.requires))))
    ∙ users_counted words c.type_inv.words USER_WORDS (omega (arith, c.requires))

pub overflow_cast-result : goal.overflow_cast-result
overflow_cast-result c =
    let words = c.args.words.now in
    let is =
    c.count_words.ensures
    ∙ ap (sum_by count_ones) (sym (take_all USER_WORDS words (omega (arith, c.requires))))
    ∙ users_counted words c.type_inv.words USER_WORDS (omega (arith, c.requires)) in
    record { fits = omega (arith, is, count_within (64 * USER_WORDS) (has_user words)) }
