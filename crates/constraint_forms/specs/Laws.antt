-- What is true of every rule, whatever its form.
use Rattle.std.specs.Prelude.{◌≡◌, ℕ, ◌<◌, Bool, not, ◌==◌, cond, Option, Some, IsTrue}
use Rattle.constraint_forms.specs.declared.rule.Rule.{Rule}
use Rattle.constraint_forms.specs.Rules.{Relating, is_satisfied, is_falsified, names, reads}

-- a total assignment satisfies a rule exactly where it does not falsify it
abbrev pub TotalsDecide : Type 0
TotalsDecide =
    (related : Relating) (rule : Rule) (f : ℕ → ℕ) →
    is_satisfied related rule f ≡ not (is_falsified related rule (λ s. Some (f s)))

-- b gives each step that a gives to a user to the same user
abbrev pub IsExtension : (ℕ → Option ℕ) → (ℕ → Option ℕ) → Type 0
IsExtension a b = (s u : ℕ) → a s ≡ Some u → b s ≡ Some u

-- what an assignment falsifies, every extension of it falsifies
abbrev pub StaysFalsified : Type 0
StaysFalsified =
    (related : Relating) (rule : Rule) (a b : ℕ → Option ℕ) →
    IsExtension a b → IsTrue (is_falsified related rule a) → IsTrue (is_falsified related rule b)

-- assignments that agree at the steps of a rule
abbrev pub AgreeOnNamed : {X : Type 0} → Rule → (ℕ → X) → (ℕ → X) → Type 0
AgreeOnNamed rule a b = (s : ℕ) → IsTrue (names rule s) → a s ≡ b s

-- whether a rule is falsified depends on its own steps alone
abbrev pub FalsifiedByNamed : Type 0
FalsifiedByNamed =
    (related : Relating) (rule : Rule) (a b : ℕ → Option ℕ) →
    AgreeOnNamed rule a b → is_falsified related rule a ≡ is_falsified related rule b

-- whether a rule is satisfied depends on its own steps alone
abbrev pub SatisfiedByNamed : Type 0
SatisfiedByNamed =
    (related : Relating) (rule : Rule) (f g : ℕ → ℕ) →
    AgreeOnNamed rule f g → is_satisfied related rule f ≡ is_satisfied related rule g

-- total assignments under which each relation that a rule reads relates the same of its steps, and
-- which give the same of its steps to one user
pub record AreAlike (related : Relating) (rule : Rule) (f g : ℕ → ℕ) : Type 0 where
  pub relate_same :
      (rho s t : ℕ) → IsTrue (reads rule rho) → IsTrue (names rule s) → IsTrue (names rule t) →
      related rho (f s) (f t) ≡ related rho (g s) (g t)
  pub join_same :
      (s t : ℕ) → IsTrue (names rule s) → IsTrue (names rule t) → (f s == f t) ≡ (g s == g t)

-- of users a rule sees only who is related, and who is one user
abbrev pub SeesRelatedness : Type 0
SeesRelatedness =
    (related : Relating) (rule : Rule) (f g : ℕ → ℕ) →
    AreAlike related rule f g → is_satisfied related rule f ≡ is_satisfied related rule g

-- the users u and v exchanged, and every other user left
abbrev pub exchanged : ℕ → ℕ → ℕ → ℕ
exchanged u v w = cond (w == u) v (cond (w == v) u w)

-- a relation treats u and v alike: towards every other of all users, and between themselves
pub record AreInterchangeable (users : ℕ) (holds : ℕ → ℕ → Bool) (u v : ℕ) : Type 0 where
  pub towards : (w : ℕ) → w < users → (w ≡ u → ⊥) → (w ≡ v → ⊥) → holds u w ≡ holds v w
  pub «from» : (w : ℕ) → w < users → (w ≡ u → ⊥) → (w ≡ v → ⊥) → holds w u ≡ holds w v
  pub own : holds u u ≡ holds v v
  pub mutually : holds u v ≡ holds v u

-- each relation that a rule reads treats u and v alike
abbrev pub AreTwinsFor : ℕ → Relating → Rule → ℕ → ℕ → Type 0
AreTwinsFor users related rule u v =
    (rho : ℕ) → IsTrue (reads rule rho) → AreInterchangeable users (related rho) u v

-- where a rule's steps are given to users of the policy, exchanging two of them whom each relation
-- that the rule reads treats alike does not matter to the rule
abbrev pub ExchangeDoesNotMatter : Type 0
ExchangeDoesNotMatter =
    (users : ℕ) (related : Relating) (rule : Rule) (f : ℕ → ℕ) (u v : ℕ) →
    ((s : ℕ) → IsTrue (names rule s) → f s < users) → AreTwinsFor users related rule u v →
    is_satisfied related rule (λ s. exchanged u v (f s)) ≡ is_satisfied related rule f
