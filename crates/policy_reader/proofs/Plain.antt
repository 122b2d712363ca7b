-- A document that a policy is written as has no dates and few levels.
use Rattle.std.proofs.Common.{◌≡◌, ℕ, zero, suc, ◌+◌, ◌≤◌, Bool, true, List, [], ◌∷◌, map, length, Less, Equal, Greater, refl, arith, Option, Some, None, max}
use Rattle.std.proofs.Common.{pos}
use Rattle.constraint_forms.specs.declared.rule.Rule.TheVariants as rule
use Rattle.policy_reader.proofs.Prints.{nat_cmp, match_ordering, slice_cmp, and_both, and_from, Data, string, integer, array, table, Members, no_members}
use Rattle.policy_reader.proofs.Prints.{member, depth, members_depth, has_valid_dates, members_have_valid_dates, items_of, Rule, has_role}
use Rattle.policy_reader.proofs.Prints.{RelationShape, complement_of, PolicyShape, WorkflowShape, flow_at, format_number, written_format, first_declared}
use Rattle.policy_reader.proofs.Prints.{with_member, table_below, name_at, names_where, pair_data, pairs_data, relation_entry, rule_data, flow_entry}
use Rattle.policy_reader.proofs.Prints.{permit_entry, user_entry, Pairs}
use Rattle.policy_reader.specs.declared.form.Form.{Form}
use Rattle.policy_reader.specs.Documents.{kind_members, grouped_members, rule_members, workflow_members, document_of, counting_members}

record IsPlain (n : ℕ) (d : Data) : Type 0 where
  levels : depth d ≤ n
  dates : has_valid_dates d ≡ true

pub record ArePlain (n : ℕ) (ms : Members) : Type 0 where
  pub levels : members_depth ms ≤ n
  pub dates : members_have_valid_dates ms ≡ true

-- the greater of two numbers is at most n just where both are
max_le : (a b n : ℕ) → a ≤ n → b ≤ n → max a b ≤ n
max_le a b n p q = grind (arith, p, q)

le_max : (a b n : ℕ) → max a b ≤ n → (a ≤ n) × (b ≤ n)
le_max a b n h = (grind (arith, h), grind (arith, h))

text : (n : ℕ) (s : List ℕ) → IsPlain n (string s)
text n s = record { levels = omega arith; dates = refl }

plain_array : {X : Type 0} (n : ℕ) (f : X → Data) (xs : List X) → ((x : X) → IsPlain n (f x)) → IsPlain (suc n) (array (items_of (map f xs)))
plain_array n f [] h = record { levels = omega arith; dates = refl }
plain_array n f (x ∷ xs) h = grind (arith, max_le, (plain_array n f xs h))

plain_table : (n : ℕ) (ms : Members) → ArePlain n ms → IsPlain (suc n) (table ms)
plain_table n ms h = record { levels = omega (arith, h.levels); dates = h.dates }

infixr 5 ◌&◌
-- one more member that is plain
◌&◌ : {n : ℕ} {k : List ℕ} {d : Data} {ms : Members} → IsPlain n d → ArePlain n ms → ArePlain n (member k d ms)
h & all = record { levels = max_le _ _ _ h.levels all.levels; dates = and_from _ _ h.dates all.dates }

none : (n : ℕ) → ArePlain n no_members
none n = record { levels = omega arith; dates = refl }

with_plain : (n : ℕ) (k : List ℕ) (d : Data) (ms : Members) → IsPlain n d → ArePlain n ms → ArePlain n (with_member k d ms)
with_plain n k d no_members h all = h & all
with_plain n k d (member l e ms) h all =
    let levels = le_max (depth e) (members_depth ms) n all.levels in
    let dates = and_both (has_valid_dates e) (members_have_valid_dates ms) all.dates in
    let first : IsPlain n e = record { levels = levels.0; dates = dates.0 } in
    let rest : ArePlain n ms = record { levels = levels.1; dates = dates.1 } in
    elim (slice_cmp nat_cmp k l) as (λ o. ArePlain n (match_ordering o (member k d (member l e ms)) (member l d ms) (member l e (with_member k d ms)))) [
      | Less ↦ h & all
      | Equal ↦ h & rest
      | Greater ↦ first & with_plain n k d ms h rest
    ]

below_plain : (n m : ℕ) (entry : ℕ → List ℕ × Data) → ((i : ℕ) → IsPlain n (entry i).1) → IsPlain (suc n) (table (table_below m entry))
below_plain n m entry h = plain_table n (table_below m entry) (all m)
  where
    all : (m : ℕ) → ArePlain n (table_below m entry)
    all zero = none n
    all (suc m) = with_plain n (entry m).0 (entry m).1 (table_below m entry) (h m) (all m)

names_plain : (n : ℕ) (names : List (List ℕ)) (test : ℕ → Bool) → IsPlain (suc n) (names_where names test)
names_plain n names test = plain_array n (λ i. string (name_at names i)) _ (λ i. text n (name_at names i))

pairs_plain : (n : ℕ) (names : List (List ℕ)) (pairs : Pairs) → IsPlain (suc (suc n)) (pairs_data names pairs)
pairs_plain n names pairs = plain_array (suc n) (pair_data names) _ (λ p. record { levels = omega arith; dates = refl })

kind_plain : (users : List (List ℕ)) (relations : List RelationShape) (rho : ℕ) (o : Option ℕ) → ArePlain 3 (kind_members users relations rho o)
unfolding kind_members
kind_plain users relations rho None = pairs_plain 1 users _ & none 3
kind_plain users relations rho (Some n) = text 3 _ & none 3

grouped_plain : (form : Form) (relations : List RelationShape) (steps : List (List ℕ)) (rho : ℕ) (group : List Bool) (step : ℕ) → ArePlain
    1 (grouped_members form relations steps rho group step)
unfolding grouped_members
grouped_plain form relations steps rho group step = text 1 _ & names_plain 0 steps _ & text 1 _ & text 1 _ & none 1

counting_plain : (form : Form) (steps : List (List ℕ)) (limit : ℕ) (group : List Bool) → ArePlain 1 (counting_members form steps limit group)
unfolding counting_members
counting_plain form steps limit group =
    let number : IsPlain 1 (integer (pos limit)) = record { levels = omega arith; dates = refl } in
    text 1 _ & names_plain 0 steps _ & number & none 1

rule_plain : (relations : List RelationShape) (steps : List (List ℕ)) (r : Rule) → ArePlain 1 (rule_members relations steps r)
unfolding rule_members
rule_plain relations steps (rule.Pair rho s t) = text 1 _ & text 1 _ & text 1 _ & text 1 _ & none 1
rule_plain relations steps (rule.SomeOf rho group s) = grouped_plain _ relations steps rho group s
rule_plain relations steps (rule.AllOf rho group s) = grouped_plain _ relations steps rho group s
rule_plain relations steps (rule.SomeTo rho s group) = grouped_plain _ relations steps rho group s
rule_plain relations steps (rule.AllTo rho s group) = grouped_plain _ relations steps rho group s
rule_plain relations steps (rule.AtMost limit group) = counting_plain _ steps limit group
rule_plain relations steps (rule.AtLeast limit group) = counting_plain _ steps limit group

workflow_plain : (roles : List (List ℕ)) (relations : List RelationShape) (w : WorkflowShape) → ArePlain 3 (workflow_members roles relations w)
unfolding workflow_members
workflow_plain roles relations w =
    pairs_plain 1 w.flow.steps w.flow.order
    & below_plain 2 (length w.flow.steps) (permit_entry roles w.flow) (λ s. names_plain 1 roles _)
    & plain_array 2 (rule_data relations w.flow.steps) w.rules (λ r. plain_table 1 _ (rule_plain relations w.flow.steps r))
    & plain_array 2 string w.flow.steps (text 2)
    & none 3

-- no dates, and at most five levels
pub document_plain : (p : PolicyShape) → ArePlain 5 (document_of p)
unfolding document_of
document_plain p =
    let format : IsPlain 5 (integer (pos (format_number (written_format p)))) = record { levels = omega arith; dates = refl } in
    text 5 _
    & below_plain 4 (length p.flows) (flow_entry p) (λ f. plain_table 3 _ (workflow_plain p.roster.roles p.relations (flow_at p f)))
    & format
    & below_plain 4 (length p.relations) (λ n. relation_entry p.roster.users p.relations (first_declared + n))
    (λ n. plain_table 3 _ (kind_plain p.roster.users p.relations _ (complement_of p.relations (first_declared + n))))
    & plain_array 4 string p.roster.roles (text 4)
    & below_plain 4 (length p.roster.users) (user_entry p.roster) (λ u. names_plain 3 p.roster.roles (has_role p.roster u))
    & none 5
