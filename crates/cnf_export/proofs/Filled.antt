-- Few clauses have no literal: those of steps that nobody may have.
use Rattle.std.proofs.Common.{◌≡◌, refl, ℕ, zero, suc, ◌+◌, ◌/◌, ◌%◌, ◌≤◌, Bool, true, false, List, [], ◌∷◌, ◌++◌, map, length, arith}
use Rattle.std.specs.Prelude.{ℤ}
use Rattle.std.specs.List.{flat_map}
use Rattle.constraint_forms.specs.declared.rule.Rule.{Rule}
use Rattle.constraint_forms.specs.declared.rule.Rule.TheVariants as rule
use Rattle.cnf_export.specs.Laws.Encodings.{Encoding, blocks, clause, count_groups, counting_clause, ending_clause, group_clauses, groups, height, literals}
use Rattle.cnf_export.specs.Laws.Encodings.{part_items}
use Rattle.cnf_export.specs.Laws.Encodings.{members, numbers, once_clause, part_clauses, parts, rule_groups, rules_groups, step_groups}
use Rattle.cnf_export.specs.Laws.Encodings.{taking_clause}
use Rattle.cnf_export.specs.Sizes.{empties, empty_one}
use Rattle.cnf_export.specs.declared.group.Group.{Group}
use Rattle.cnf_export.specs.declared.group.Group.TheVariants.{Outside, Someone, Once, Pair, SomeOf, Taking, Counting, Ending}
use Rattle.cnf_export.specs.Terms.{pair_group_at}

pub empties-append : (xs ys : List (List ℤ)) → empties (xs ++ ys) ≡ empties xs + empties ys
empties-append [] ys = omega arith
empties-append (x ∷ xs) ys = let rest = empties-append xs ys in omega (arith, rest)

pub literals-append : (xs ys : List (List ℤ)) → literals (xs ++ ys) ≡ literals xs + literals ys
literals-append [] ys = omega arith
literals-append (x ∷ xs) ys = let rest = literals-append xs ys in omega (arith, rest)

one_at_least : (c : List ℤ) → 1 ≤ length c + empty_one c
one_at_least c = grind arith

-- each clause has a literal but for these
pub few_clauses : (cs : List (List ℤ)) → length cs ≤ literals cs + empties cs
few_clauses [] = omega arith
few_clauses (c ∷ cs) = let rest = few_clauses cs in let one = one_at_least c in omega (arith, rest, one)

-- ---- each clause of most groups has a literal

map_filled : {X : Type 0} (f : X → List ℤ) (xs : List X) → ((x : X) → empty_one (f x) ≡ 0) → empties (map f xs) ≡ 0
map_filled f [] each = refl
map_filled f (x ∷ xs) each = let rest = map_filled f xs each in let one = each x in omega (arith, rest, one)

flat_filled : {X : Type 0} (f : X → List (List ℤ)) (xs : List X) → ((x : X) → empties (f x) ≡ 0) → empties (flat_map f xs) ≡ 0
flat_filled f [] each = refl
flat_filled f (x ∷ xs) each = grind (arith, empties-append, (flat_filled f xs each))

group_filled : (e : Encoding) (g : Group) → ((i k : ℕ) → empty_one (clause e g i k) ≡ 0) → empties (group_clauses e g) ≡ 0
group_filled e g each = flat_filled (part_clauses e g) (numbers 0 (parts e g)) (λ i. map_filled (clause e g i) (part_items e g i) (each i))

once_filled : (e : Encoding) (s u k : ℕ) → empty_one (once_clause e s u k) ≡ 0
once_filled e s u k = grind arith

taking_filled : (e : Encoding) (block : ℕ) (group : List Bool) (u k : ℕ) → empty_one (taking_clause e block group u k) ≡ 0
taking_filled e block group u k = grind arith

counting_filled : (e : Encoding) (block high u j row : ℕ) → empty_one (counting_clause e block high u j row) ≡ 0
counting_filled e block high u j row = grind arith

ending_filled : (e : Encoding) (block : ℕ) (most : Bool) (high : ℕ) → empty_one (ending_clause e block most high) ≡ 0
ending_filled e block most high = grind arith

-- ---- groups

one_empty : (c : List ℤ) → empty_one c ≤ 1
one_empty c = grind arith

step_within : (e : Encoding) (s : ℕ) → empties (flat_map (group_clauses e) (step_groups s)) ≤ 1
step_within e s =
    let outside : empties (group_clauses e (Outside s)) ≡ 0 = group_filled e (Outside s) (λ i k. refl) in
    let once : empties (group_clauses e (Once s)) ≡ 0 = group_filled e (Once s) (λ i k. once_filled e s i k) in
    let rest : empties (group_clauses e (Once s) ++ []) ≡ empties (group_clauses e (Once s)) + 0 = empties-append (group_clauses e (Once s)) [] in
    let first = empties-append (group_clauses e (Outside s)) (group_clauses e (Someone s) ++ (group_clauses e (Once s) ++ [])) in
    let second = empties-append (group_clauses e (Someone s)) (group_clauses e (Once s) ++ []) in
    let single : empties (group_clauses e (Someone s)) ≡ empty_one (clause e (Someone s) 0 0) + 0 = refl in
    let one = one_empty (clause e (Someone s) 0 0) in
    omega (arith, outside, once, rest, first, second, single, one)

pair_filled : (e : Encoding) (back : Bool) (rho x s : ℕ) → empties (group_clauses e (pair_group_at back rho s x)) ≡ 0
pair_filled e back rho x s = grind (arith, group_filled)

flat_map_filled : {X : Type 0} (f : Group → List (List ℤ)) (g : X → Group) (xs : List X) → ((x : X) → empties (f (g x)) ≡ 0) →
    empties (flat_map f (map g xs)) ≡ 0
flat_map_filled f g [] each = refl
flat_map_filled f g (x ∷ xs) each = grind (arith, empties-append, (flat_map_filled f g xs each))

one_filled : (e : Encoding) (g : Group) → empties (group_clauses e g) ≡ 0 → empties (flat_map (group_clauses e) (g ∷ [])) ≡ 0
one_filled e g none = let sum = empties-append (group_clauses e g) [] in omega (arith, sum, none)

count_filled : (e : Encoding) (block : ℕ) (most : Bool) (limit : ℕ) (group : List Bool) →
    empties (flat_map (group_clauses e) (count_groups block most limit group)) ≡ 0
count_filled e block most limit group =
    let taking = group_filled e (Taking block group) (λ u k. taking_filled e block group u k) in
    let counting = group_filled e (Counting block most limit) (λ u k. counting_filled e block (height most limit) u (k / 4) (k % 4)) in
    let ending = one_filled e (Ending block most limit) (group_filled e (Ending block most limit) (λ u k. ending_filled e block most (height most limit))) in
    let first = empties-append (group_clauses e (Taking block group))
    (group_clauses e (Counting block most limit) ++ flat_map (group_clauses e) (Ending block most limit ∷ [])) in
    let second = empties-append (group_clauses e (Counting block most limit)) (flat_map (group_clauses e) (Ending block most limit ∷ [])) in
    omega (arith, taking, counting, ending, first, second)

rule_filled : (e : Encoding) (block : ℕ) (r : Rule) → empties (flat_map (group_clauses e) (rule_groups block r)) ≡ 0
rule_filled e block (rule.Pair rho s t) = one_filled e (Pair rho s t) (group_filled e (Pair rho s t) (λ i k. refl))
rule_filled e block (rule.SomeOf rho group s) = one_filled e (SomeOf rho false group s) (group_filled e (SomeOf rho false group s) (λ i k. refl))
rule_filled e block (rule.AllOf rho group s) = flat_map_filled (group_clauses e) (pair_group_at false rho s) (members group) (λ x. pair_filled e false rho x s)
rule_filled e block (rule.SomeTo rho s group) = one_filled e (SomeOf rho true group s) (group_filled e (SomeOf rho true group s) (λ i k. refl))
rule_filled e block (rule.AllTo rho s group) = flat_map_filled (group_clauses e) (pair_group_at true rho s) (members group) (λ x. pair_filled e true rho x s)
rule_filled e block (rule.AtMost limit group) = count_filled e block true limit group
rule_filled e block (rule.AtLeast limit group) = count_filled e block false limit group

flat-append : {X : Type 0} (f : X → List (List ℤ)) (xs ys : List X) → empties (flat_map f (xs ++ ys)) ≡ empties (flat_map f xs) + empties (flat_map f ys)
flat-append f [] ys = omega arith
flat-append f (x ∷ xs) ys = grind (arith, empties-append, (flat-append f xs ys))

rules_filled : (e : Encoding) (block : ℕ) (rules : List Rule) → empties (flat_map (group_clauses e) (rules_groups block rules)) ≡ 0
rules_filled e block [] = refl
rules_filled e block (r ∷ rules) = grind (arith, rule_filled, flat-append, (rules_filled e (block + blocks r) rules))

steps_within : (e : Encoding) (k n : ℕ) → empties (flat_map (group_clauses e) (flat_map step_groups (numbers k n))) ≤ n
steps_within e k zero = omega arith
steps_within e k (suc n) =
    let rest = steps_within e (k + 1) n in
    let one = step_within e k in
    let sum = flat-append (group_clauses e) (step_groups k) (flat_map step_groups (numbers (k + 1) n)) in
    omega (arith, rest, one, sum)

pub filled : (e : Encoding) (steps : ℕ) (rules : List Rule) → empties (flat_map (group_clauses e) (groups steps rules)) ≤ steps
filled e steps rules = grind (arith, steps_within, rules_filled, flat-append)
