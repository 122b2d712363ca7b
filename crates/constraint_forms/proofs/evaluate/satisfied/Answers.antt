use Rattle.constraint_forms.proofs.RuleLaws.{first-named, second-named, step-named, member-named}
use Rattle.constraint_forms.proofs.evaluate.satisfied.Goals as goal

pub at-requires : goal.at-requires
at-requires g c = (rw c.in-Pair.is at c.requires) _ (first-named c.in-Pair.rho c.in-Pair.first c.in-Pair.second)

pub at-requires-in-Pair : goal.at-requires-in-Pair
at-requires-in-Pair g c = (rw c.in-Pair.is at c.requires) _ (second-named c.in-Pair.rho c.in-Pair.first c.in-Pair.second)

pub at-requires-in-SomeOf : goal.at-requires-in-SomeOf
at-requires-in-SomeOf g c = (rw c.in-SomeOf.is at c.requires) _ (step-named c.in-SomeOf.rho c.in-SomeOf.group c.in-SomeOf.step)

pub any_related-requires : goal.any_related-requires
any_related-requires g c x h = (rw c.in-SomeOf.is at c.requires) _ (member-named c.in-SomeOf.rho c.in-SomeOf.group c.in-SomeOf.step x h)

pub at-requires-in-AllOf : goal.at-requires-in-AllOf
at-requires-in-AllOf g c = (rw c.in-AllOf.is at c.requires) _ (step-named c.in-AllOf.rho c.in-AllOf.group c.in-AllOf.step)

pub all_related-requires : goal.all_related-requires
all_related-requires g c x h = (rw c.in-AllOf.is at c.requires) _ (member-named c.in-AllOf.rho c.in-AllOf.group c.in-AllOf.step x h)

pub at-requires-in-SomeTo : goal.at-requires-in-SomeTo
at-requires-in-SomeTo g c = (rw c.in-SomeTo.is at c.requires) _ (step-named c.in-SomeTo.rho c.in-SomeTo.group c.in-SomeTo.step)

pub any_related-requires-in-SomeTo : goal.any_related-requires-in-SomeTo
any_related-requires-in-SomeTo g c x h = (rw c.in-SomeTo.is at c.requires) _ (member-named c.in-SomeTo.rho c.in-SomeTo.group c.in-SomeTo.step x h)

pub at-requires-in-AllTo : goal.at-requires-in-AllTo
at-requires-in-AllTo g c = (rw c.in-AllTo.is at c.requires) _ (step-named c.in-AllTo.rho c.in-AllTo.group c.in-AllTo.step)

pub all_related-requires-in-AllTo : goal.all_related-requires-in-AllTo
all_related-requires-in-AllTo g c x h = (rw c.in-AllTo.is at c.requires) _ (member-named c.in-AllTo.rho c.in-AllTo.group c.in-AllTo.step x h)

pub count_planned-requires : goal.count_planned-requires
count_planned-requires g c x h = (rw c.in-AtMost.is at c.requires) x h

pub count_planned-requires-in-AtLeast : goal.count_planned-requires-in-AtLeast
count_planned-requires-in-AtLeast g c x h = (rw c.in-AtLeast.is at c.requires) x h
