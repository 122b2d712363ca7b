use Rattle.std.proofs.Common.{◌≡◌, ℕ, ◌+◌, ◌<◌, Bool, List, ◌⊎◌, inl, inr}
use Rattle.constraint_forms.specs.declared.rule.Rule.TheVariants.{SomeOf, AllOf, SomeTo, AllTo}
use Rattle.policy_reader.proofs.Prints.{subst, nat_eq, or_left, or_right, eq_same, IsSoundRule, Rule}
use Rattle.policy_reader.proofs.printed_flows.put_rule.Goals as goal
use Rattle.policy_reader.proofs.printed_flows.put_rule.Goals.{in-SomeOf, in-SomeOf-2, in-SomeOf-3, in-SomeOf-4}

-- what is known of the rule that a sound one is
kept : (steps relations : ℕ) (r made : Rule) → r ≡ made → IsSoundRule steps relations r → IsSoundRule steps relations made
kept steps relations r made is sound = subst (IsSoundRule steps relations) is sound

-- the step and the relation of a rule over a group
grouped : (steps relations : ℕ) (r : Rule) (rho s : ℕ) (group : List Bool) → (r ≡ SomeOf rho group s) ⊎ ((r ≡ AllOf rho group s) ⊎ ((r ≡ SomeTo rho s group) ⊎
    (r ≡ AllTo rho s group))) → IsSoundRule steps relations r → (s < steps) × (rho < relations + 2)
grouped n m r rho s group (inl e) sound =
    let k = kept n m r _ e sound in (k.names s (or_left (nat_eq s s) _ (eq_same s)), k.known rho (eq_same rho))
grouped n m r rho s group (inr (inl e)) sound =
    let k = kept n m r _ e sound in (k.names s (or_left (nat_eq s s) _ (eq_same s)), k.known rho (eq_same rho))
grouped n m r rho s group (inr (inr (inl e))) sound =
    let k = kept n m r _ e sound in (k.names s (or_left (nat_eq s s) _ (eq_same s)), k.known rho (eq_same rho))
grouped n m r rho s group (inr (inr (inr e))) sound =
    let k = kept n m r _ e sound in (k.names s (or_left (nat_eq s s) _ (eq_same s)), k.known rho (eq_same rho))

pub put_pair-requires-clause-first : goal.put_pair-requires-clause-first
put_pair-requires-clause-first c =
    let s = c.in-Pair.first in (kept _ _ _ _ c.in-Pair.is c.requires.sound).names s (or_left (nat_eq s s) _ (eq_same s))

pub put_pair-requires-clause-second : goal.put_pair-requires-clause-second
put_pair-requires-clause-second c =
    let s = c.in-Pair.second in (kept _ _ _ _ c.in-Pair.is c.requires.sound).names s (or_right (nat_eq s c.in-Pair.first) _ (eq_same s))

pub put_pair-requires-clause-relation : goal.put_pair-requires-clause-relation
put_pair-requires-clause-relation c = (kept _ _ _ _ c.in-Pair.is c.requires.sound).known c.in-Pair.rho (eq_same c.in-Pair.rho)

pub put_grouped-requires-clause-step : goal.put_grouped-requires-clause-step
put_grouped-requires-clause-step c =
    elim c.in-SomeOf-1.branch [
      | in-SomeOf w ↦ rw w.step-is (grouped _ _ _ _ _ _ w.in-SomeOf.is c.requires.sound).0
      | in-SomeOf-2 w ↦ rw w.step-is (grouped _ _ _ _ _ _ w.in-SomeOf.is c.requires.sound).0
      | in-SomeOf-3 w ↦ rw w.step-is (grouped _ _ _ _ _ _ w.in-SomeOf.is c.requires.sound).0
      | in-SomeOf-4 w ↦ rw w.step-is (grouped _ _ _ _ _ _ w.in-SomeOf.is c.requires.sound).0
    ]

pub put_grouped-requires-clause-relation : goal.put_grouped-requires-clause-relation
put_grouped-requires-clause-relation c =
    elim c.in-SomeOf-1.branch [
      | in-SomeOf w ↦ rw w.rho-is (grouped _ _ _ _ _ _ w.in-SomeOf.is c.requires.sound).1
      | in-SomeOf-2 w ↦ rw w.rho-is (grouped _ _ _ _ _ _ w.in-SomeOf.is c.requires.sound).1
      | in-SomeOf-3 w ↦ rw w.rho-is (grouped _ _ _ _ _ _ w.in-SomeOf.is c.requires.sound).1
      | in-SomeOf-4 w ↦ rw w.rho-is (grouped _ _ _ _ _ _ w.in-SomeOf.is c.requires.sound).1
    ]
