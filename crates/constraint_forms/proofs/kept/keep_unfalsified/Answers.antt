use Rattle.std.proofs.Common.{◌≡◌, ℕ, Bool, List, Option, Some, not, ◌&&◌, slice_set, arith}
use Rattle.constraint_forms.specs.Assign.{user_at}
use Rattle.constraint_forms.specs.Rules.{Relating, is_falsified}
use Rattle.constraint_forms.specs.declared.rule.Rule.{Rule}
use Rattle.constraint_forms.proofs.kept.keep_unfalsified.Goals as goal

-- the rule is the one of this form
by_form : (related : Relating) (rule form : Rule) (a : List (Option ℕ)) (s : ℕ) (old new : ℕ → Bool) → rule ≡ form →
    ((u : ℕ) → new u ≡ (old u && not (is_falsified related form (user_at (slice_set a s (Some u)))))) →
    (u : ℕ) → new u ≡ (old u && not (is_falsified related rule (user_at (slice_set a s (Some u)))))
by_form related rule form a s old new is kept = rw is kept

pub returns-in-Pair : goal.returns-in-Pair
returns-in-Pair g c = grind (arith, by_form)

pub returns-in-AllOf : goal.returns-in-AllOf
returns-in-AllOf g c = grind (arith, by_form)

pub returns-in-SomeOf : goal.returns-in-SomeOf
returns-in-SomeOf g c = grind (arith, by_form)

pub returns-in-AtMost : goal.returns-in-AtMost
returns-in-AtMost g c = grind (arith, by_form)

pub returns-in-AllTo : goal.returns-in-AllTo
returns-in-AllTo g c = grind (arith, by_form)

pub returns-in-SomeTo : goal.returns-in-SomeTo
returns-in-SomeTo g c = grind (arith, by_form)

pub returns-in-AtLeast : goal.returns-in-AtLeast
returns-in-AtLeast g c = grind (arith, by_form)
