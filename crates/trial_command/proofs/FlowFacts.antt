-- The workflow of a trial: its order has no cycle, no pair stands twice, and its rules name its steps.
use Rattle.std.proofs.Common.{◌≡◌, ℕ, zero, suc, ◌+◌, ◌%◌, ◌<◌, ◌≤◌, inl, inr, Bool, true, false, ◌||◌, List, [], ◌∷◌, ◌++◌, map, length, replicate}
use Rattle.std.proofs.Common.{slice_index_or, ◌==◌, refl, sym, ap, subst, ◌∙◌, append_assoc, arith}
use Rattle.std.specs.List.{list_any, range_with_len}
use Rattle.std.specs.Ordering.{eq_by_cmp}
use Rattle.std.specs.FinSet as set
use Rattle.std.proofs.lemmas.Bool.Decides.{nat_tests}
use Rattle.std.proofs.lemmas.List.FromFn.{map-range_with_len_more}
use Rattle.basics.specs.Laws.Pairs.{Pairs, pair_cmp}
use Rattle.basics.specs.PairLaws.{either_inserted, pair_cmp_total, pair_cmp-IsAntisymmetric}
use Rattle.workflow_schema.specs.Flows.{IsLeastCycle, Precedes, has_twice, next, through}
use Rattle.basics.proofs.Booleans.{eq_back, or_cases}
use Rattle.constraint_forms.specs.Assign.{is_member, no_steps}
use Rattle.constraint_forms.specs.declared.rule.Rule.{Rule}
use Rattle.constraint_forms.specs.declared.rule.Rule.TheVariants.{Pair, SomeOf, AllOf}
use Rattle.policy_book.specs.Laws.Facts.{AreSoundRules, IsSoundRule, PermitsRolesBelow}
use Rattle.trial_command.specs.Named.{step_name}
use Rattle.trial_command.specs.Policy.{both, trial_flow, trial_rules}
use Rattle.trial_command.proofs.NameForms.{buy_form, steps_count}

abbrev pub pair_up : ℕ → ℕ × ℕ
pair_up k = (k, k + 1)

abbrev pub role_and_step : ℕ → ℕ × ℕ
role_and_step k = (k % 5, k)

pub order_more : (s : ℕ) → map pair_up (range_with_len 0 (s + 1)) ≡ map pair_up (range_with_len 0 s) ++ (s, s + 1) ∷ []
order_more s = map-range_with_len_more pair_up 0 s s (omega arith)

pub permits_more : (s : ℕ) → map role_and_step (range_with_len 0 (s + 1)) ≡ map role_and_step (range_with_len 0 s) ++ (s % 5, s) ∷ []
permits_more s = map-range_with_len_more role_and_step 0 s s (omega arith)

pub pairs_more : (s : ℕ) → map (λ k. Pair 1 k (k + 1)) (range_with_len 0 (s + 1)) ≡ map (λ k. Pair 1 k (k + 1)) (range_with_len 0 s) ++ Pair 1 s (s + 1) ∷ []
pairs_more s = map-range_with_len_more (λ k. Pair 1 k (k + 1)) 0 s s (omega arith)

pub four_more : (rules : List Rule) (a b c d : Rule) → ((((rules ++ a ∷ []) ++ b ∷ []) ++ c ∷ []) ++ d ∷ []) ≡ rules ++ a ∷ b ∷ c ∷ d ∷ []
four_more rules a b c d = simp append_assoc refl

-- what is in the set of the values of a function is one of them
of_range : (f : ℕ → ℕ × ℕ) (a n : ℕ) (q : ℕ × ℕ) → set.contains {R = pair_cmp} (set.from_list (map f (range_with_len a n))) q ≡ true → (k : ℕ) ×
    ((k < a + n) × (q ≡ f k))
of_range f a zero q h = let none = set.contains-empty pair_cmp q in cc
of_range f a (suc n) q h = elim (either_inserted pair_cmp_total pair_cmp-IsAntisymmetric (set.from_list (map f (range_with_len (a + 1) n))) (f a) q h) [
  | inl e ↦ (a, (omega arith, e))
  | inr rest ↦ let found = of_range f (a + 1) n q rest in (found.0, (omega (arith, found.1.0), found.1.1))
]

abbrev order : Pairs
order = set.from_list (map pair_up (range_with_len 0 11))

ascends : (s t : ℕ) → set.contains order (s, t) ≡ true → s < t
ascends s t h = let found = of_range pair_up 0 11 (s, t) h in
    let first : s ≡ found.0 = ap (λ (p : ℕ × ℕ). p.0) found.1.1 in
    let second : t ≡ found.0 + 1 = ap (λ (p : ℕ × ℕ). p.1) found.1.1 in
    omega (arith, first, second)

goes_up : (s t : ℕ) → Precedes order s t → s < t
goes_up s t (next h) = ascends s t h
goes_up s u (through {t = t} h rest) = omega (arith, ascends s t h, goes_up t u rest)

pub no_cycle : (s : ℕ) → ¬ IsLeastCycle order s
no_cycle s least = let up = goes_up s s least.cycle in absurd (omega (arith, up))

-- a pair stands twice, where its pairs are compared one by one
repeats : List (ℕ × ℕ) → Bool
repeats [] = false
repeats (p ∷ ps) = list_any (eq_by_cmp pair_cmp p) ps || repeats ps

twice_is : (ps : List (ℕ × ℕ)) → has_twice ps ≡ repeats ps
unfolding repeats
twice_is [] = refl
twice_is (p ∷ ps) =
    ap (λ b. b || has_twice ps) (set.contains-from_list pair_cmp_total ps p)
    ∙ ap (λ b. list_any (eq_by_cmp pair_cmp p) ps || b) (twice_is ps)

pub order_once : has_twice (map pair_up (range_with_len 0 11)) ≡ false
unfolding repeats
order_once = twice_is (map pair_up (range_with_len 0 11))

pub permits_once : has_twice (map role_and_step (range_with_len 0 12)) ≡ false
unfolding repeats
permits_once = twice_is (map role_and_step (range_with_len 0 12))

-- the same of any list that is that of the order, or that of the permissions
pub no_cycle_in : (pairs : List (ℕ × ℕ)) (s : ℕ) → pairs ≡ map pair_up (range_with_len 0 11) → IsLeastCycle (set.from_list pairs) s → ⊥
no_cycle_in pairs s e least = no_cycle s (subst (λ (ps : List (ℕ × ℕ)). IsLeastCycle (set.from_list ps) s) e least)

pub order_once_in : (pairs : List (ℕ × ℕ)) → pairs ≡ map pair_up (range_with_len 0 11) → has_twice pairs ≡ false
order_once_in pairs e = ap has_twice e ∙ order_once

pub permits_once_in : (pairs : List (ℕ × ℕ)) → pairs ≡ map role_and_step (range_with_len 0 12) → has_twice pairs ≡ false
permits_once_in pairs e = ap has_twice e ∙ permits_once

pub flow_is : (names : List (List ℕ)) (pairs permits : List (ℕ × ℕ)) → names ≡ map step_name (range_with_len 0 12) → pairs ≡ map pair_up (range_with_len 0 11)
    → permits ≡ map role_and_step (range_with_len 0 12) → record { steps = names; order = set.from_list pairs; permits = set.from_list permits } ≡ trial_flow
unfolding trial_flow
flow_is names pairs permits n p r i = record { steps = n i; order = set.from_list (p i); permits = set.from_list (r i) }

pub flow_permits : PermitsRolesBelow 6 trial_flow
unfolding trial_flow
flow_permits r s h =
    let found = of_range role_and_step 0 12 (r, s) h in
    let role : r ≡ found.0 % 5 = ap (λ (p : ℕ × ℕ). p.0) found.1.1 in
    omega (arith, role)

pub flow_steps : length trial_flow.steps ≡ 12
unfolding trial_flow
flow_steps = refl

pub rules_few : length trial_rules ≤ 64
unfolding trial_rules
rules_few = omega arith

abbrev AreSound : List Rule → Type 0
AreSound rules = AreSoundRules 12 2 rules

sound_more : (rule : Rule) (rules : List Rule) → IsSoundRule 12 2 rule → AreSound rules → AreSound (rule ∷ rules)
sound_more rule rules first rest zero r e = grind arith
sound_more rule rules first rest (suc k) r e = rest k r e

pair_sound : (rho first second : ℕ) → rho < 4 → first < 12 → second < 12 → IsSoundRule 12 2 (Pair rho first second)
pair_sound rho first second related a b = grind (arith, nat_tests, eq_back)

past_flags : (n s : ℕ) → slice_index_or (replicate n false) s false ≡ true → ⊥
past_flags zero s h = cc
past_flags (suc n) zero h = cc
past_flags (suc n) (suc s) h = past_flags n s h

first_two : (s : ℕ) → is_member (both 0 1) s ≡ true → s < 12
unfolding no_steps
first_two s h = grind (arith, past_flags)

next_two : (s : ℕ) → is_member (both 2 3) s ≡ true → s < 12
unfolding no_steps
next_two s h = grind (arith, past_flags)

group_sound : (group : List Bool) (step s : ℕ) → ((t : ℕ) → is_member group t ≡ true → t < 12) → step < 12 → ((s == step) || is_member group s) ≡ true → s < 12
group_sound group step s members low h = grind (arith, or_cases, nat_tests)

all_sound : IsSoundRule 12 2 (AllOf 2 (both 0 1) 4)
unfolding no_steps
all_sound = grind (arith, group_sound, first_two, eq_back)

some_sound : IsSoundRule 12 2 (SomeOf 3 (both 2 3) 6)
unfolding no_steps
some_sound = grind (arith, group_sound, next_two, eq_back)

pairs_sound : (a n : ℕ) (rest : List Rule) → a + n ≤ 11 → AreSound rest → AreSound (map (λ k. Pair 1 k (k + 1)) (range_with_len a n) ++ rest)
pairs_sound a zero rest few sound = sound
pairs_sound a (suc n) rest few sound =
    sound_more (Pair 1 a (a + 1)) _ (pair_sound 1 a (a + 1) (omega arith) (omega arith) (omega arith)) (pairs_sound (a + 1) n rest (omega arith) sound)

none_sound : AreSound []
none_sound k r e = cc

trial_sound : AreSound trial_rules
unfolding trial_rules
trial_sound =
    pairs_sound 0 11 (AllOf 2 (both 0 1) 4 ∷ SomeOf 3 (both 2 3) 6 ∷ Pair 1 0 11 ∷ Pair 3 5 8 ∷ []) (omega arith) (
    sound_more (AllOf 2 (both 0 1) 4) (SomeOf 3 (both 2 3) 6 ∷ Pair 1 0 11 ∷ Pair 3 5 8 ∷ []) all_sound (
    sound_more (SomeOf 3 (both 2 3) 6) (Pair 1 0 11 ∷ Pair 3 5 8 ∷ []) some_sound (
    sound_more (Pair 1 0 11) (Pair 3 5 8 ∷ []) (pair_sound 1 0 11 (omega arith) (omega arith) (omega arith)) (
    sound_more (Pair 3 5 8) [] (pair_sound 3 5 8 (omega arith) (omega arith) (omega arith)) none_sound))))

pub rules_sound : AreSoundRules (length trial_flow.steps) 2 trial_rules
rules_sound = subst (λ n. AreSoundRules n 2 trial_rules) (sym flow_steps) trial_sound

pub sound_rules : (steps relations : ℕ) (rules : List Rule) → steps ≡ length trial_flow.steps → relations ≡ 2 → rules ≡ trial_rules →
    AreSoundRules steps relations rules
sound_rules steps relations rules e two is =
    subst (AreSoundRules steps relations) (sym is)
    (subst (λ n. AreSoundRules steps n trial_rules) (sym two) (subst (λ n. AreSoundRules n 2 trial_rules) (sym e) rules_sound))

-- what is made by one more pair of steps, and by the four rules behind them
pub ruleset more = (pairs_more, four_more)

-- what the building of the workflow rests on
pub ruleset once_each = (steps_count, order_once_in, permits_once_in)

-- what the policy rests on to take the workflow
pub ruleset flow_facts = (buy_form, flow_permits, flow_steps, rules_few, rules_sound)
