use Rattle.std.proofs.Common.{◌∙◌, ◌≡◌, Bool, true, false, is_some, not, ◌&&◌, ◌||◌, sym, ap, ap₂, arith}
use Rattle.basics.proofs.Booleans.{or_left, or_right}
use Rattle.wf_names.specs.UserSets.{has_user}
use Rattle.constraint_forms.proofs.Related.{is_given, step_in}
use Rattle.constraint_forms.proofs.kept.keep_related_to_some.Goals as goal
use Rattle.constraint_forms.proofs.kept.keep_related_to_some.Goals.{then-is_some-via-then-is_some, then-is_some-via-else-is_some+then-eq}

-- what is asked of all the members alone, or of none
no_members : (b t all : Bool) → t ≡ false → b ≡ (b && not (t && all))
no_members b t all is = grind arith

of_members : (b t all : Bool) → t ≡ true → (b && not all) ≡ (b && not (t && all))
of_members b t all is = sym (ap (λ x. b && not (x && all)) is)

pub returns-else-eq : goal.returns-else-eq
returns-else-eq g c = λ u.
    let a = c.args.asked.now.given in
    let none = is_given a c.args.asked.now.s u (step_in a _ _ c.args.asked.now.step c.at.ensures.len) c.args.step
    ∙ ap₂ (λ o e. o || e) (ap is_some (sym c.at.ensures.user) ∙ sym c.is_some.ensures ∙ c.if-is_some.false) (sym c.eq.ensures ∙ c.if-eq.false) in
    no_members (has_user c.args.set.now u) _ _ none

pub returns-then-is_some : goal.returns-then-is_some
returns-then-is_some g c = λ u.
    let a = c.args.asked.now.given in
    let given = is_given a c.args.asked.now.s u (step_in a _ _ c.args.asked.now.step c.at.ensures.len) c.args.step in
    c.keep_related_to_member.ensures u
    ∙ of_members (has_user c.args.set.now u) _ _ (given ∙ elim c.then-is_some.branch [
      | then-is_some-via-then-is_some w ↦ or_left _ _ (ap is_some (sym c.at.ensures.user) ∙ sym c.is_some.ensures ∙ w.if-is_some.true)
      | then-is_some-via-else-is_some+then-eq w ↦ or_right _ _ (sym w.eq.ensures ∙ w.if-eq.true)
    ])
