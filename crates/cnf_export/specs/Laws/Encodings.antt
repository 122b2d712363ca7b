-- The clauses that say what a valid plan is.
use Rattle.std.specs.Prelude.{ℕ, zero, suc, ◌+◌, ◌*◌, ◌-◌, ◌/◌, ◌%◌, ℤ, Bool, true, false, not}
use Rattle.std.specs.Prelude.{cond, ◌&&◌, ◌||◌, ◌==◌, nat_lt, List, [], ◌∷◌, ◌++◌, length, map}
use Rattle.std.specs.Prelude.{Option, None, Some, if◌then◌else◌}
use Rattle.std.specs.List.{flat_map}
use Rattle.constraint_forms.specs.declared.rule.Rule.{Rule}
use Rattle.constraint_forms.specs.declared.rule.Rule.TheVariants as rule
use Rattle.constraint_forms.specs.Assign.{user_at, is_member}
use Rattle.constraint_forms.specs.Rules.{Relating, turned}
use Rattle.policy_book.specs.Laws.Plans.{Problem}
use Rattle.policy_book.specs.Laws.Refuting.{passing}
use Rattle.cnf_export.specs.Laws.Clauses.{yes_to, no_to}
use Rattle.cnf_export.specs.declared.group.Group.{Group}
use Rattle.cnf_export.specs.declared.group.Group.TheVariants.{Outside, Someone, Once, Pair, SomeOf}
use Rattle.cnf_export.specs.declared.group.Group.TheVariants.{Taking, Counting, Ending}

-- what the clauses are made of: how many users and steps there are, whom a step may have, and who
-- is related to whom
pub record Encoding : Type 0 where
  pub users : ℕ
  pub steps : ℕ
  pub may_have : ℕ → ℕ → Bool
  pub related : Relating

-- a user whom a step may have, by whom it has: a free step each who is authorised; a finished one
-- its own user alone, and so a held one, if that user is authorised
abbrev pub may_be : Problem → List Bool → ℕ → Option ℕ → ℕ → Bool
may_be p finished s None u = p.authorised s u
may_be p finished s (Some v) u = (v == u) && (is_member finished s || p.authorised s v)

abbrev pub encoding_of : Problem → List (Option ℕ) → List Bool → Encoding
encoding_of p assigned finished = record {
  users = p.users;
  steps = p.steps;
  may_have = λ s u. nat_lt s p.steps && may_be p finished s (user_at assigned s) u;
  related = p.related;
}

-- the variable that says that a step has a user
abbrev pub has : Encoding → ℕ → ℕ → ℕ
has e s u = s * e.users + u

-- the variable that says that a step has a user or one before
abbrev pub has_by : Encoding → ℕ → ℕ → ℕ
has_by e s u = e.steps * e.users + (s * e.users + u)

-- the variables of a rule that counts stand behind `block` blocks of one variable for each user:
-- the variable that says that a user has some step of the rule
abbrev pub takes : Encoding → ℕ → ℕ → ℕ
takes e block u = block * e.users + u

-- the variable that says that of the users up to u more than j have some step of the rule
abbrev pub counts : Encoding → ℕ → ℕ → ℕ → ℕ → ℕ
counts e block height u j = block * e.users + e.users + (u * height + j)

-- how many such variables a user has: to where a greatest number is passed,
-- or a least one met
abbrev pub height : Bool → ℕ → ℕ
height most limit = cond most (limit + 1) limit

-- n numbers from k on
abbrev pub numbers : ℕ → ℕ → List ℕ
numbers k zero = []
numbers k (suc n) = k ∷ numbers (k + 1) n

-- the users, and those of them who pass
abbrev pub users_who : Encoding → (ℕ → Bool) → List ℕ
users_who e test = passing test 0 e.users

-- the steps of a group
abbrev pub members : List Bool → List ℕ
members group = passing (is_member group) 0 (length group)

-- a group of clauses has parts, a part has items, and each item is a clause
abbrev pub parts : Encoding → Group → ℕ
parts e (Outside s) = 1
parts e (Someone s) = 1
parts e (Once s) = e.users
parts e (Pair rho s t) = e.users
parts e (SomeOf rho back group s) = 1
parts e (Taking block group) = e.users
parts e (Counting block most limit) = e.users
parts e (Ending block most limit) = cond (e.users == 0) 0 1

abbrev pub once_items : ℕ → List ℕ
once_items zero = 0 ∷ []
once_items (suc u) = 0 ∷ 1 ∷ 2 ∷ []

-- which of the four rows of clauses there are for the users up to u and a number j
abbrev pub count_rows : ℕ → ℕ → List ℕ
count_rows u j =
    if u == 0 then cond (j == 0) (1 ∷ 2 ∷ []) (2 ∷ 3 ∷ [])
    else cond (j == 0) (0 ∷ 1 ∷ 2 ∷ []) (0 ∷ 1 ∷ 2 ∷ 3 ∷ [])

abbrev pub part_items : Encoding → Group → ℕ → List ℕ
part_items e (Outside s) i = users_who e (λ u. not (e.may_have s u))
part_items e (Someone s) i = 0 ∷ []
part_items e (Once s) i = once_items i
part_items e (Pair rho s t) i =
    if e.may_have s i then users_who e (λ v. e.may_have t v && not (e.related rho i v)) else []
part_items e (SomeOf rho back group s) i = users_who e (e.may_have s)
part_items e (Taking block group) i = map (λ t. suc t) (members group) ++ 0 ∷ []
part_items e (Counting block most limit) i =
    flat_map (λ j. map (λ row. 4 * j + row) (count_rows i j)) (numbers 0 (height most limit))
part_items e (Ending block most limit) i = 0 ∷ []

abbrev pub once_clause : Encoding → ℕ → ℕ → ℕ → List ℤ
once_clause e s u zero = no_to (has e s u) ∷ yes_to (has_by e s u) ∷ []
once_clause e s u (suc zero) = no_to (has_by e s (u - 1)) ∷ yes_to (has_by e s u) ∷ []
once_clause e s u (suc (suc k)) = no_to (has e s u) ∷ no_to (has_by e s (u - 1)) ∷ []

-- where v has a step, some member of a group has a user who is related to v, or, read back, to
-- whom v is
abbrev pub some_clause : Encoding → ℕ → Bool → List Bool → ℕ → ℕ → List ℤ
some_clause e rho back group s v =
    no_to (has e s v) ∷ flat_map (λ t. map (λ u. yes_to (has e t u))
    (users_who e (λ u. e.may_have t u && turned back e.related rho u v))) (members group)

-- a user has some step of a group exactly where one of them has the user
abbrev pub taking_clause : Encoding → ℕ → List Bool → ℕ → ℕ → List ℤ
taking_clause e block group u zero =
    no_to (takes e block u) ∷ map (λ t. yes_to (has e t u)) (members group)
taking_clause e block group u (suc t) = no_to (has e t u) ∷ yes_to (takes e block u) ∷ []

-- of the users up to u more than j have a step, exactly where of those before more than j have one,
-- or u has and of those before more than j - 1
abbrev pub counting_clause : Encoding → ℕ → ℕ → ℕ → ℕ → ℕ → List ℤ
counting_clause e block high u j zero =
    no_to (counts e block high (u - 1) j) ∷ yes_to (counts e block high u j) ∷ []
counting_clause e block high u j (suc zero) =
    no_to (takes e block u) ∷ (cond (j == 0) [] (no_to (counts e block high (u - 1) (j - 1)) ∷ [])
    ++ yes_to (counts e block high u j) ∷ [])
counting_clause e block high u j (suc (suc zero)) =
    no_to (counts e block high u j)
    ∷ (cond (u == 0) [] (yes_to (counts e block high (u - 1) j) ∷ [])
    ++ yes_to (takes e block u) ∷ [])
counting_clause e block high u j (suc (suc (suc row))) =
    no_to (counts e block high u j)
    ∷ cond (u == 0) [] (yes_to (counts e block high (u - 1) j)
    ∷ yes_to (counts e block high (u - 1) (j - 1)) ∷ [])

-- all users together: the greatest number is not passed, or the least one is met
abbrev pub ending_clause : Encoding → ℕ → Bool → ℕ → List ℤ
ending_clause e block true high = no_to (counts e block high (e.users - 1) (high - 1)) ∷ []
ending_clause e block false high = yes_to (counts e block high (e.users - 1) (high - 1)) ∷ []

abbrev pub clause : Encoding → Group → ℕ → ℕ → List ℤ
-- a user whom the step may not have does not have it
clause e (Outside s) i u = no_to (has e s u) ∷ []
-- some user whom it may have has it
clause e (Someone s) i k = map (λ u. yes_to (has e s u)) (users_who e (e.may_have s))
-- no two have it
clause e (Once s) u k = once_clause e s u k
-- two unrelated users do not have the two steps
clause e (Pair rho s t) u v = no_to (has e s u) ∷ no_to (has e t v) ∷ []
clause e (SomeOf rho back group s) i v = some_clause e rho back group s v
clause e (Taking block group) u k = taking_clause e block group u k
clause e (Counting block most limit) u k =
    counting_clause e block (height most limit) u (k / 4) (k % 4)
clause e (Ending block most limit) i k = ending_clause e block most (height most limit)

abbrev pub part_clauses : Encoding → Group → ℕ → List (List ℤ)
part_clauses e g i = map (clause e g i) (part_items e g i)

abbrev pub group_clauses : Encoding → Group → List (List ℤ)
group_clauses e g = flat_map (part_clauses e g) (numbers 0 (parts e g))

abbrev pub step_groups : ℕ → List Group
step_groups s = Outside s ∷ Someone s ∷ Once s ∷ []

-- a rule that counts: who has a step, how many do, and what is asked of it
abbrev pub count_groups : ℕ → Bool → ℕ → List Bool → List Group
count_groups block most limit group =
    Taking block group ∷ Counting block most limit ∷ Ending block most limit ∷ []

-- a rule that all members keep is one of pairs
abbrev pub rule_groups : ℕ → Rule → List Group
rule_groups block (rule.Pair rho s t) = Pair rho s t ∷ []
rule_groups block (rule.SomeOf rho group s) = SomeOf rho false group s ∷ []
rule_groups block (rule.AllOf rho group s) = map (λ x. Pair rho x s) (members group)
rule_groups block (rule.SomeTo rho s group) = SomeOf rho true group s ∷ []
rule_groups block (rule.AllTo rho s group) = map (λ x. Pair rho s x) (members group)
rule_groups block (rule.AtMost limit group) = count_groups block true limit group
rule_groups block (rule.AtLeast limit group) = count_groups block false limit group

-- how many blocks of one variable for each user a rule has of its own
abbrev pub blocks : Rule → ℕ
blocks (rule.Pair rho s t) = 0
blocks (rule.SomeOf rho group s) = 0
blocks (rule.AllOf rho group s) = 0
blocks (rule.SomeTo rho s group) = 0
blocks (rule.AllTo rho s group) = 0
blocks (rule.AtMost limit group) = 1 + height true limit
blocks (rule.AtLeast limit group) = 1 + height false limit

-- the groups of rules whose variables begin behind `block` blocks
abbrev pub rules_groups : ℕ → List Rule → List Group
rules_groups block [] = []
rules_groups block (r ∷ rs) = rule_groups block r ++ rules_groups (block + blocks r) rs

abbrev pub rules_blocks : List Rule → ℕ
rules_blocks [] = 0
rules_blocks (r ∷ rs) = blocks r + rules_blocks rs

-- the blocks of the steps: who has each, and who has it by then
abbrev pub step_blocks : ℕ → ℕ
step_blocks steps = steps + steps

abbrev pub groups : ℕ → List Rule → List Group
groups steps rules = flat_map step_groups (numbers 0 steps)
    ++ rules_groups (step_blocks steps) rules

-- how many variables there are
abbrev pub variables_of : Problem → ℕ
variables_of p = (step_blocks p.steps + rules_blocks p.rules) * p.users

-- all clauses: those of each step, and then those of each rule
abbrev pub clauses_of : Problem → List (Option ℕ) → List Bool → List (List ℤ)
clauses_of p assigned finished =
    flat_map (group_clauses (encoding_of p assigned finished)) (groups p.steps p.rules)

-- how many literals some clauses have
abbrev pub literals : List (List ℤ) → ℕ
literals [] = 0
literals (c ∷ cs) = length c + literals cs
