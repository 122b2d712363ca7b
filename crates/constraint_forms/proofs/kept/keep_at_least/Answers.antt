use Rattle.std.proofs.Common.{◌≡◌, ◌+◌, ℕ, Bool, List, Option, None, not, slice_set, sym, ap, ◌∙◌, arith}
use Rattle.basics.proofs.Booleans.{and_same}
use Rattle.wf_names.specs.UserSets.{has_user}
use Rattle.constraint_forms.specs.Assign.{user_at}
use Rattle.constraint_forms.specs.Rules.{different, free_from, is_among, users_from}
use Rattle.constraint_forms.proofs.Counted.{all_left, nobody_left, least_full, least_keeps, least_out, least_strikes}
use Rattle.constraint_forms.proofs.Related.{step_in}
use Rattle.constraint_forms.proofs.kept.keep_at_least.Goals as goal
use Rattle.constraint_forms.proofs.kept.keep_at_least.Goals.{else-count-limit-2-via-then-count-limit-2+else-has, else-count-limit-2-via-else-count-limit-2}

-- what is counted
counted : (group : List Bool) (a o : List (Option ℕ)) (s n m : ℕ) → o ≡ slice_set a s None → n ≡ different (users_from 0 group (user_at o)) →
    m ≡ free_from 0 group (user_at o) →
    different (users_from 0 group (user_at (slice_set a s None))) + free_from 0 group (user_at (slice_set a s None)) ≡ n + m
counted group a o s n m e is free = grind arith

pub returns-then-count-limit : goal.returns-then-count-limit
returns-then-count-limit c = λ u.
    let a = c.args.asked.now.given in
    let s = c.args.asked.now.s in
    let group = c.args.group.now in
    let count = counted group a c.without-others.result s c.count_users.result c.count_free.result c.without-others.ensures.freed
    c.count_users.ensures.users c.count_free.ensures.free in
    c.empty.ensures.none u ∙ nobody_left (has_user c.args.set.now u) _
    (least_out group a s u (step_in a s _ c.args.asked.now.step c.without-others.ensures.len) c.args.limit (omega (arith, count, c.if-count-limit.true)))

pub returns-then-has : goal.returns-then-has
returns-then-has c = λ u.
    let a = c.args.asked.now.given in
    let s = c.args.asked.now.s in
    let group = c.args.group.now in
    let count = counted group a c.without-others.result s c.count_users.result c.count_free.result c.without-others.ensures.freed
    c.count_users.ensures.users c.count_free.ensures.free in
    let within = step_in a s _ c.args.asked.now.step c.without-others.ensures.len in
    c.strike.ensures u ∙ and_same (has_user c.args.set.now u) _ _ (λ is. ap not (
    c.users_of.ensures u (omega (arith, c.requires u is, c.args.asked.now.few))
    ∙ ap (λ o. is_among (users_from 0 group (user_at o)) u) c.without-others.ensures.freed
    ∙ sym (least_strikes group a s u within c.args.limit (omega (arith, count, c.if-count-limit-2.true)) (sym c.has.ensures.flag ∙ c.if-has.true))))

pub returns-else-count-limit-2 : goal.returns-else-count-limit-2
returns-else-count-limit-2 c = λ u.
    let a = c.args.asked.now.given in
    let s = c.args.asked.now.s in
    let group = c.args.group.now in
    let count = counted group a c.without-others.result s c.count_users.result c.count_free.result c.without-others.ensures.freed
    c.count_users.ensures.users c.count_free.ensures.free in
    let within = step_in a s _ c.args.asked.now.step c.without-others.ensures.len in
    elim c.else-count-limit-2.branch [
      | else-count-limit-2-via-then-count-limit-2+else-has w ↦
          all_left (has_user c.args.set.now u) _
          (least_full group a s u within c.args.limit (omega (arith, count, w.if-count-limit-2.true)) (sym w.has.ensures.flag ∙ w.if-has.false))
      | else-count-limit-2-via-else-count-limit-2 w ↦
          all_left (has_user c.args.set.now u) _
          (least_keeps group a s u within c.args.limit (omega (arith, count, c.if-count-limit.false, w.if-count-limit-2.false)))
    ]
