-- Models as flags, one for each variable, and the model that says a plan.
use Rattle.std.specs.Prelude.{◌≡◌, ℕ, suc, ◌<◌, ◌==◌, nat_le, nat_lt, Bool, true, false, List}
use Rattle.std.specs.Prelude.{[], ◌∷◌, ◌++◌, map, slice_index_or}
use Rattle.std.specs.List.{flat_map}
use Rattle.wf_names.specs.UserSets.{count_below}
use Rattle.constraint_forms.specs.declared.rule.Rule.{Rule}
use Rattle.constraint_forms.specs.declared.rule.Rule.TheVariants as rule
use Rattle.constraint_forms.specs.Assign.{planned}
use Rattle.policy_book.specs.Laws.Plans.{Problem}
use Rattle.cnf_export.specs.Laws.Encodings.{height, numbers}
use Rattle.cnf_export.specs.Models.{has_some}

-- whether a variable is in a model; one that has no flag is not
abbrev pub has_variable : List Bool → ℕ → Bool
has_variable flags v = slice_index_or flags v false

-- of each of the first `rows` rows, each of the first `places` places
abbrev pub grid : (ℕ → ℕ → Bool) → ℕ → ℕ → List Bool
grid f rows places = flat_map (λ i. map (f i) (numbers 0 places)) (numbers 0 rows)

-- who of n users has some step of a group, and how many of those up to each one
abbrev pub count_flags : ℕ → List ℕ → ℕ → List Bool → List Bool
count_flags n plan high group =
    map (has_some group plan) (numbers 0 n)
    ++ grid (λ u j. nat_lt j (count_below (suc u) (has_some group plan))) n high

abbrev pub rule_flags : ℕ → List ℕ → Rule → List Bool
rule_flags n plan (rule.Pair rho s t) = []
rule_flags n plan (rule.SomeOf rho group s) = []
rule_flags n plan (rule.AllOf rho group s) = []
rule_flags n plan (rule.SomeTo rho s group) = []
rule_flags n plan (rule.AllTo rho s group) = []
rule_flags n plan (rule.AtMost limit group) = count_flags n plan (height true limit) group
rule_flags n plan (rule.AtLeast limit group) = count_flags n plan (height false limit) group

abbrev pub rules_flags : ℕ → List ℕ → List Rule → List Bool
rules_flags n plan [] = []
rules_flags n plan (r ∷ rs) = rule_flags n plan r ++ rules_flags n plan rs

-- the model that says a plan: who has each step, who has it by then, and what the rules count
abbrev pub plan_flags : Problem → List ℕ → List Bool
plan_flags p plan =
    grid (λ s u. planned plan s == u) p.steps p.users
    ++ (grid (λ s u. nat_le (planned plan s) u) p.steps p.users ++ rules_flags p.users plan p.rules)

-- a test that is run says of each number below n what it is to say
abbrev pub Says : (ℕ → Bool → Type 0) → ℕ → (ℕ → Bool) → Type 0
Says answers n said = (k : ℕ) → k < n → (b : Bool) → answers k b → b ≡ said k
