-- Inside: how far the search for the least absence has come.
use Rattle.std.specs.Prelude.{◌≡◌, ℕ, true, not, ◌&&◌, ◌==◌, nat_lt, List}
use Rattle.std.specs.Prelude.{◌++◌, length, Option, None, Some, IsTrue}
use Rattle.std.specs.FinSet as set
use Rattle.basics.specs.Laws.Pairs.{Pairs}
use Rattle.constraint_forms.specs.Assign.{no_users, no_steps}
use Rattle.refutation_tree.specs.Laws.Views.{shape_of}
use Rattle.refutation_tree.specs.declared.tree.Tree.{Tree}
use Rattle.policy_book.specs.Laws.Shapes.{PolicyShape}
use Rattle.policy_book.specs.Policies.{problem_of, with_roster}
use Rattle.policy_book.specs.Laws.Refuting.{refutes}
use Rattle.resilience_check.specs.Left.{AreUsersInOrder, is_less, problem_without}
use Rattle.resilience_check.specs.Covering.{AreValidPlans, leaves_some}

-- what one family has a whole plan for the other has one for too
abbrev pub Grows : List (List ℕ) → List (List ℕ) → Type 0
Grows before after =
    (absent : List ℕ) → leaves_some before absent ≡ true → leaves_some after absent ≡ true

-- a tree refutes what is left without some users
abbrev pub RefutesAbsence : PolicyShape → ℕ → List ℕ → Tree → Type 0
RefutesAbsence p f absent tree =
    IsTrue (refutes (problem_without p f absent) no_users no_steps (shape_of tree))

-- the family has a whole plan for each absence of `left` more users, numbered from k on
pub record HasNone (n : ℕ) (absent : List ℕ) (k left : ℕ) (plans : List (List ℕ))
    (now : List ℕ) : Type 0 where
  pub same : now ≡ absent
  pub each : (other : List ℕ) → AreUsersInOrder k n other → length other ≡ left
      → leaves_some plans (absent ++ other) ≡ true

-- `left` more users, numbered from k on, were found who leave no valid plan; the family has a whole
-- plan for each lesser list of as many
pub record HasFoundLeast (p : PolicyShape) (f : ℕ) (absent : List ℕ) (k left : ℕ)
    (plans : List (List ℕ)) (now : List ℕ) (tree : Tree) : Type 0 where
  pub more : List ℕ
  pub is : now ≡ absent ++ more
  pub ascending : AreUsersInOrder k (length p.roster.users) more
  pub count : length more ≡ left
  pub refuted : RefutesAbsence p f now tree
  pub least : (other : List ℕ) → AreUsersInOrder k (length p.roster.users) other
      → length other ≡ left → is_less other more ≡ true → leaves_some plans (absent ++ other) ≡ true

abbrev pub Found : PolicyShape → ℕ → List ℕ → ℕ → ℕ → List (List ℕ) → List ℕ → Option Tree
    → Type 0
Found p f absent k left plans now None = HasNone (length p.roster.users) absent k left plans now
Found p f absent k left plans now (Some tree) = HasFoundLeast p f absent k left plans now tree

-- the family is still one of valid plans, and has no fewer
pub record FamilyGrows (p : PolicyShape) (f : ℕ) (before after : List (List ℕ)) : Type 0 where
  pub valid : AreValidPlans (problem_of p f) after
  pub grows : Grows before after

-- absences of `left` more users, numbered from k on, were tried
abbrev pub HasTriedAbsences : PolicyShape → ℕ → List (List ℕ) → List ℕ → ℕ → ℕ → List (List ℕ) →
    List ℕ
    → Option Tree → Type 0
HasTriedAbsences p f before absent k left after now found =
    FamilyGrows p f before after × Found p f absent k left after now found

-- one absence was tried: a tree refutes, or the family has a plan for it
abbrev pub FoundOne : PolicyShape → ℕ → List ℕ → List (List ℕ) → Option Tree → Type 0
FoundOne p f absent plans None = leaves_some plans absent ≡ true
FoundOne p f absent plans (Some tree) = RefutesAbsence p f absent tree

abbrev pub HasTriedOne : PolicyShape → ℕ → List (List ℕ) → List ℕ → List (List ℕ) → Option Tree
    → Type 0
HasTriedOne p f before absent after found =
    FamilyGrows p f before after × FoundOne p f absent after found

-- a policy with other memberships
abbrev pub with_members : PolicyShape → Pairs → PolicyShape
with_members p members = with_roster p (record p.roster { members = members })

-- memberships without those of a user in the roles below r
abbrev pub members_below : ℕ → ℕ → Pairs → Pairs
members_below r u members = set.retain members (λ q. not ((u == q.0) && nat_lt q.1 r))
