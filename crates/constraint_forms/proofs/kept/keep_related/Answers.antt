use Rattle.std.proofs.Common.{◌∙◌, Some, not, ◌&&◌, sym, ap}
use Rattle.wf_names.specs.UserSets.{has_user}
use Rattle.constraint_forms.specs.Rules.{are_unrelated, turned}
use Rattle.constraint_forms.proofs.Counted.{all_left, nobody_left}
use Rattle.constraint_forms.proofs.Related.{at_other, at_step, left_by, left_by_itself, other_way, step_in}
use Rattle.constraint_forms.proofs.kept.keep_related.Goals as goal

pub returns-in-true-true : goal.returns-in-true-true
returns-in-true-true g c = λ u.
    let a = c.args.asked.now.given in
    let s = c.args.asked.now.s in
    c.keep_related_to_self.ensures u
    ∙ left_by_itself a s u (step_in a s _ c.args.asked.now.step c.at-u.ensures.len) (g.R.Holds.related c.args.rows.now) c.args.back c.args.rho
    c.args.x c.args.y (has_user c.args.set.now u) c.in-true-true.ensures c.in-true-true.ensures'

pub returns-in-true-false : goal.returns-in-true-false
returns-in-true-false g c = λ u.
    let a = c.args.asked.now.given in
    let s = c.args.asked.now.s in
    let within = step_in a s _ c.args.asked.now.step c.at-u.ensures.len in
    c.keep_ahead.ensures u
    ∙ left_by a s u within (turned c.args.back (g.R.Holds.related c.args.rows.now)) c.args.rho c.args.x c.args.y (has_user c.args.set.now u)
    (Some u) c.at-v.result (at_step a s u within c.args.x c.in-true-false.ensures)
    (at_other a s u within c.args.y c.in-true-false.ensures' ∙ sym c.at-v.ensures.user)

pub returns-in-false-true : goal.returns-in-false-true
returns-in-false-true g c = λ u.
    let a = c.args.asked.now.given in
    let s = c.args.asked.now.s in
    let within = step_in a s _ c.args.asked.now.step c.at-u.ensures.len in
    c.keep_ahead-in-false-true.ensures u
    ∙ ap (λ t. has_user c.args.set.now u && not t) (other_way (g.R.Holds.related c.args.rows.now) c.args.back c.args.rho u c.at-u.result)
    ∙ left_by a s u within (turned c.args.back (g.R.Holds.related c.args.rows.now)) c.args.rho c.args.x c.args.y (has_user c.args.set.now u)
    c.at-u.result (Some u) (at_other a s u within c.args.x c.in-false-true.ensures ∙ sym c.at-u.ensures.user)
    (at_step a s u within c.args.y c.in-false-true.ensures')

pub returns-then-is_unrelated : goal.returns-then-is_unrelated
returns-then-is_unrelated g c = λ u.
    let a = c.args.asked.now.given in
    let s = c.args.asked.now.s in
    let within = step_in a s _ c.args.asked.now.step c.at-u.ensures.len in
    let related = turned c.args.back (g.R.Holds.related c.args.rows.now) in
    c.empty.ensures.none u
    ∙ nobody_left (has_user c.args.set.now u) (are_unrelated related c.args.rho c.at-u.result c.at-v.result)
    (sym c.is_unrelated.ensures ∙ c.if-is_unrelated.true)
    ∙ left_by a s u within related c.args.rho c.args.x c.args.y (has_user c.args.set.now u) c.at-u.result c.at-v.result
    (at_other a s u within c.args.x c.in-false-false.ensures ∙ sym c.at-u.ensures.user)
    (at_other a s u within c.args.y c.in-false-false.ensures' ∙ sym c.at-v.ensures.user)

pub returns-else-is_unrelated : goal.returns-else-is_unrelated
returns-else-is_unrelated g c = λ u.
    let a = c.args.asked.now.given in
    let s = c.args.asked.now.s in
    let within = step_in a s _ c.args.asked.now.step c.at-u.ensures.len in
    let related = turned c.args.back (g.R.Holds.related c.args.rows.now) in
    all_left (has_user c.args.set.now u) (are_unrelated related c.args.rho c.at-u.result c.at-v.result)
    (sym c.is_unrelated.ensures ∙ c.if-is_unrelated.false)
    ∙ left_by a s u within related c.args.rho c.args.x c.args.y (has_user c.args.set.now u) c.at-u.result c.at-v.result
    (at_other a s u within c.args.x c.in-false-false.ensures ∙ sym c.at-u.ensures.user)
    (at_other a s u within c.args.y c.in-false-false.ensures' ∙ sym c.at-v.ensures.user)
