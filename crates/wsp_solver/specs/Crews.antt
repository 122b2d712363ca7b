-- Inside: what a search knows of each user.
use Rattle.std.specs.Prelude.{◌≡◌, ℕ, ◌<◌, ◌≤◌, ◌+◌, Bool, true, false, not, ◌&&◌, ◌||◌, ◌==◌}
use Rattle.std.specs.Prelude.{nat_lt, List, [], Option, None, Some, slice_index_or}
use Rattle.wf_names.specs.declared.limits.TheConstants.{STEP_LIMIT}
use Rattle.constraint_forms.specs.declared.rule.Rule.{Rule}
use Rattle.constraint_forms.specs.Assign.{no_steps}
use Rattle.constraint_forms.specs.Flags.{word_of}
use Rattle.constraint_forms.specs.Rules.{any_read}
use Rattle.policy_book.specs.Duties.{steps_below}
use Rattle.policy_book.specs.Laws.Plans.{Problem}
use Rattle.policy_book.specs.Laws.Twins.{are_twins, is_alike_to}
use Rattle.wsp_solver.specs.Searches.{NamesSteps}
use Rattle.wsp_solver.specs.declared.crew.Crew.{Crew}

-- the steps below n for which a user is authorised
abbrev pub duties_below : Problem → ℕ → ℕ → List Bool
duties_below p u n = steps_below n (λ s. p.authorised s u)

-- the steps of a user in a table
abbrev pub duties_of : List (List Bool) → ℕ → List Bool
duties_of duties u = slice_index_or duties u no_steps

-- a table has the steps for which each user is authorised
abbrev pub AreDutiesBelow : Problem → List (List Bool) → Type 0
AreDutiesBelow p duties = (u : ℕ) → u < p.users → duties_of duties u ≡ duties_below p u p.steps

-- a user has certain steps in a table
abbrev pub has_steps : List (List Bool) → List Bool → ℕ → Bool
has_steps duties steps u = word_of (duties_of duties u) == word_of steps

-- the first user from one on and below a number who has certain steps in a table
pub record IsNextWith (duties : List (List Bool)) (steps : List Bool) (from end v : ℕ) :
    Type 0 where
  pub within : v < end
  pub from_on : from ≤ v
  pub has : has_steps duties steps v ≡ true
  pub least : (w : ℕ) → from ≤ w → w < v → has_steps duties steps w ≡ false

-- a user is the first of those who are twins of another one where nothing is assigned
pub record IsFirstTwin (p : Problem) (u first : ℕ) : Type 0 where
  pub most : first < u + 1
  pub twin : are_twins p [] first u ≡ true
  pub least : (v : ℕ) → v < first → are_twins p [] v u ≡ false

-- what a table knows of a user
abbrev pub class_in : List (Option ℕ) → ℕ → Option ℕ
class_in classes u = slice_index_or classes u None

-- whoever a table knows of a user is the first twin
abbrev pub AreFirstTwins : Problem → List (Option ℕ) → Type 0
AreFirstTwins p classes = (u first : ℕ) → class_in classes u ≡ Some first → IsFirstTwin p u first

-- what a search knows of each user is right
pub record IsCrewOf (p : Problem) (crew : Crew) : Type 0 where
  pub few : p.steps ≤ STEP_LIMIT
  pub duties : AreDutiesBelow p crew.duties.items
  pub classes : AreFirstTwins p crew.classes.items
  pub named : NamesSteps p crew.named.items

-- a relation treats two users differently at a third one
abbrev pub tells_apart : (ℕ → ℕ → Bool) → ℕ → ℕ → ℕ → Bool
tells_apart holds u v w = not ((w == u || w == v) || is_alike_to holds u v w)

-- there is a rule, and some relation that it reads treats two users differently at a third one
abbrev pub is_told_apart : Problem → ℕ → ℕ → ℕ → Option Rule → Bool
is_told_apart p u v w None = false
is_told_apart p u v w (Some rule) = nat_lt w p.users &&
    any_read rule (λ rho. tells_apart (p.related rho) u v w)
