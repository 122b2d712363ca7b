-- The rules of a workflow are read from what they are written as.
use Rattle.std.proofs.Common.{◌≡◌, ℕ, zero, suc, ◌+◌, ◌<◌, ◌≤◌, Bool, true, false, ◌||◌, cond, nat_eq, List, [], ◌∷◌, ◌++◌, length, map, refl, sym, ap, ◌∙◌}
use Rattle.std.proofs.Common.{arith, codes, Some, Ok, slice_set, slice_get, replicate}
use Rattle.constraint_forms.specs.declared.rule.Rule.TheVariants as rule
use Rattle.policy_reader.proofs.Prints.{length-map, not_true, or_left, or_right, eq_same, each, string, Members, get_member, AreNames, STEP_LIMIT, RULE_LIMIT}
use Rattle.policy_reader.proofs.Prints.{RelationShape, known_names, is_member, Rule, IsSoundRule, AreSoundRules, Flows, name_at, names_where, chosen, rule_data}
use Rattle.policy_reader.proofs.Prints.{rules_data, HasFlags, HaveFlags, Format, form_of, knows_form, le_yes}
use Rattle.constraint_forms.specs.Assign.{no_steps}
use Rattle.constraint_forms.specs.Rules.{any_from, count_members}
use Rattle.policy_reader.specs.Forms.{form_keys}
use Rattle.policy_reader.specs.declared.form.Form.{Form}
use Rattle.policy_reader.specs.declared.form.Form.TheVariants as form
use Rattle.policy_reader.specs.Parts.{value_at, array_in, table_in, text_in, named_in, once, no_others, known_key}
use Rattle.policy_reader.specs.Rules.{relation_in, step_in, next_member, group_in, relation_at, step_at, group_at, limit_at, limit_in, key_in, keys_in}
use Rattle.policy_reader.specs.Rules.{counting_keys_in, counting_in, pair_in, grouped_in, form_in, rule_of_form, rule_in, next_rule, rules_in, rules_of}
use Rattle.policy_reader.specs.Documents.{rule_members, counting_members, grouped_members}
use Rattle.policy_reader.proofs.Readings.{list_back, chosen_back, got_middle, items_back, text_at, number_back, at_least-ok, at_most-ok}

-- a format has the forms of rules
abbrev pub HaveForms : Format → List Rule → Type 0
HaveForms format rules = (k : ℕ) (r : Rule) → slice_get rules k ≡ Some r → knows_form format (form_of r) ≡ true

-- ---- groups

-- a group without its steps from k on
abbrev first_of : ℕ → List Bool → List Bool
first_of zero g = map (λ _. false) g
first_of (suc k) [] = []
first_of (suc k) (b ∷ g) = b ∷ first_of k g

none_of : (g : List Bool) (s : ℕ) → is_member (map (λ _. false) g) s ≡ false
none_of [] s = refl
none_of (b ∷ g) zero = refl
none_of (b ∷ g) (suc s) = none_of g s

first_fresh : (k : ℕ) (g : List Bool) → is_member (first_of k g) k ≡ false
first_fresh zero g = none_of g zero
first_fresh (suc k) [] = refl
first_fresh (suc k) (b ∷ g) = first_fresh k g

-- the next step, where it is there and where not
first_more : (k : ℕ) (g : List Bool) (b : Bool) → is_member g k ≡ b → cond b (slice_set (first_of k g) k true) (first_of k g) ≡ first_of (suc k) g
first_more zero [] true e = refl
first_more zero [] false e = refl
first_more zero (x ∷ g) true e = ap (λ y. y ∷ map (λ _. false) g) (sym e)
first_more zero (x ∷ g) false e = ap (λ y. y ∷ map (λ _. false) g) (sym e)
first_more (suc k) [] true e = refl
first_more (suc k) [] false e = refl
first_more (suc k) (x ∷ g) true e = ap (λ h. x ∷ h) (first_more k g true e)
first_more (suc k) (x ∷ g) false e = ap (λ h. x ∷ h) (first_more k g false e)

-- no step is at k or above
first_all : (k : ℕ) (g : List Bool) → ((s : ℕ) → is_member g s ≡ true → s < k) → first_of k g ≡ g
first_all zero [] h = refl
first_all zero (b ∷ g) h = (λ i. sym (not_true b (λ e. omega (arith, h 0 e))) i ∷ first_all zero g (λ s e. absurd (omega (arith, h (suc s) e))) i)
first_all (suc k) [] h = refl
first_all (suc k) (b ∷ g) h = ap (λ rest. b ∷ rest) (first_all k g (λ s e. omega (arith, h (suc s) e)))

first_none : (g : List Bool) → first_of 0 g ≡ replicate (length g) false
first_none [] = refl
first_none (b ∷ g) = ap (λ rest. false ∷ rest) (first_none g)

module _ (f : ℕ) (steps : List (List ℕ)) (named : AreNames steps) where
  module _ (whole : List Bool) (size : length whole ≡ STEP_LIMIT) (within : (s : ℕ) → is_member whole s ≡ true → s < length steps) where
    abbrev members : List ℕ
    members = chosen (length steps) (is_member whole)

    member_again : (g : List Bool) (s : ℕ) → s < length steps → is_member g s ≡ false → next_member f steps g (text_at steps s) ≡ Ok (slice_set g s true)
    unfolding next_member named_in once text_in
    member_again g s lt fresh = rw (number_back Flows f steps s named lt, fresh) refl

    start : first_of 0 whole ≡ no_steps
    unfolding no_steps
    start = first_none whole ∙ ap (λ n. replicate n false) size

    all_again : each (next_member f steps) no_steps (map (text_at steps) members) ≡ Ok whole
    all_again =
        ap (λ g. each (next_member f steps) g (map (text_at steps) members)) (sym start)
        ∙ chosen_back (next_member f steps) (text_at steps) (λ k. first_of k whole) (is_member whole) (length steps)
        (λ k lt here. member_again (first_of k whole) k lt (first_fresh k whole) ∙ ap Ok (first_more k whole true here))
        (λ k lt none. first_more k whole false none) (length steps) (omega arith)
        ∙ ap Ok (first_all (length steps) whole within)

    -- the group that has some step has a first one
    some_again : any_from 0 whole (λ _. true) ≡ true → (ss : List ℕ) → each (next_member f steps) no_steps (map (text_at steps) ss) ≡ Ok whole → 0 < length ss
    unfolding no_steps
    some_again some [] e = grind arith
    some_again some (s ∷ ss) e = omega arith

    pub group_again : any_from 0 whole (λ _. true) ≡ true → group_in f steps (names_where steps (is_member whole)) ≡ Ok whole
    unfolding group_in array_in
    group_again some =
        rw (
          items_back (map (text_at steps) members),
          length-map members (text_at steps),
          at_least-ok Flows f (length members) (some_again some members all_again),
        ) all_again

  -- ---- rules

  some_of_count : (k : ℕ) (g : List Bool) → 0 < count_members g → any_from k g (λ _. true) ≡ true
  some_of_count k [] h = absurd (omega (arith, h))
  some_of_count k (true ∷ g) h = refl
  some_of_count k (false ∷ g) h = some_of_count (k + 1) g (omega (arith, h))

  module _ (relations : List RelationShape) (related : AreNames (known_names relations)) where
    relation_again : (rho : ℕ) → rho < length relations + 2 → relation_in f relations (string (name_at (known_names relations) rho)) ≡ Ok rho
    unfolding text_in
    relation_again rho lt = number_back Flows f (known_names relations) rho related (omega (arith, lt, length-map relations (λ r. r.name)))

    step_again : (s : ℕ) → s < length steps → step_in f steps (string (name_at steps s)) ≡ Ok s
    unfolding step_in named_in text_in
    step_again s lt = number_back Flows f steps s named lt

    -- a relation, a group of steps and a step are read from what a rule over them is written as
    grouped_again : (rule_form : Form) (rho : ℕ) (g : List Bool) (s : ℕ) → form_keys rule_form ≡ form_keys form.SomeOf → rho < length relations + 2
        → ((x : ℕ) → (nat_eq x s || is_member g x) ≡ true → x < length steps) → length g ≡ STEP_LIMIT → any_from 0 g (λ _. true) ≡ true →
        grouped_in rule_form f relations steps (grouped_members rule_form relations steps rho g s) ≡ Ok (rho, (g, s))
    unfolding grouped_in keys_in key_in relation_at step_at group_at value_at no_others known_key grouped_members
    grouped_again rule_form rho g s keys known names flags some = rw (
      keys,
      relation_again rho known,
      step_again s (names s (or_left (nat_eq s s) _ (eq_same s))),
      group_again g flags (λ x here. names x (or_right (nat_eq x s) _ here)) some,
    ) refl

    -- and so are a number of users and a group
    counting_again : (rule_form : Form) (limit : ℕ) (g : List Bool) → form_keys rule_form ≡ form_keys form.AtMost
        → ((x : ℕ) → is_member g x ≡ true → x < length steps) → length g ≡ STEP_LIMIT → 0 < limit → limit ≤ count_members g →
        counting_in rule_form f steps (counting_members rule_form steps limit g) ≡ Ok (limit, g)
    unfolding counting_in counting_keys_in key_in group_at limit_at limit_in value_at no_others known_key counting_members
    counting_again rule_form limit g keys names flags some most = rw (
      keys,
      group_again g flags names (some_of_count 0 g (omega (arith, some, most))),
      le_yes 1 limit (omega (arith, some)),
      le_yes limit (count_members g) most,
    ) refl

    rule_again : (format : Format) (r : Rule) → IsSoundRule (length steps) (length relations) r → HasFlags r → knows_form format (form_of r) ≡ true → rule_in
        format f relations steps (rule_data relations steps r) ≡ Ok r
    unfolding rule_in form_in rule_of_form pair_in keys_in key_in relation_at step_at value_at table_in no_others known_key rule_members grouped_members
        counting_members
    rule_again format (rule.Pair rho s t) h flags known = rw (
      known,
      relation_again rho (h.known rho (eq_same rho)),
      step_again
          s (h.names s (or_left (nat_eq s s) _ (eq_same s))),
      step_again t (h.names t (or_right (nat_eq t s) _ (eq_same t))),
    ) refl
    rule_again format (rule.SomeOf rho g s) h flags known =
        rw (known, grouped_again form.SomeOf rho g s refl (h.known rho (eq_same rho)) h.names flags h.members) refl
    rule_again format (rule.AllOf rho g s) h flags known =
        rw (known, grouped_again form.AllOf rho g s refl (h.known rho (eq_same rho)) h.names flags h.members) refl
    rule_again format (rule.SomeTo rho s g) h flags known =
        rw (known, grouped_again form.SomeTo rho g s refl (h.known rho (eq_same rho)) h.names flags h.members) refl
    rule_again format (rule.AllTo rho s g) h flags known =
        rw (known, grouped_again form.AllTo rho g s refl (h.known rho (eq_same rho)) h.names flags h.members) refl
    rule_again format (rule.AtMost limit g) h flags known =
        rw (known, counting_again form.AtMost limit g refl h.names flags h.members.0 h.members.1) refl
    rule_again format (rule.AtLeast limit g) h flags known =
        rw (known, counting_again form.AtLeast limit g refl h.names flags h.members.0 h.members.1) refl

    rule_step : (format : Format) (rules : List Rule) → AreSoundRules (length steps) (length relations) rules → HaveFlags rules → HaveForms format rules →
        (before : List Rule) (r : Rule) (after : List Rule) → rules ≡ before ++ r ∷ after
        → next_rule format f relations steps before (rule_data relations steps r) ≡ Ok (before ++ r ∷ [])
    unfolding next_rule
    rule_step format rules sound flags known before r after e =
        let at = ap (λ rs. slice_get rs (length before)) e ∙ got_middle before r after in
        rw (rule_again format r (sound (length before) r at) (flags (length before) r at) (known (length before) r at)) refl

    in_again : (format : Format) (rules : List Rule) → AreSoundRules (length steps) (length relations) rules → HaveFlags rules → HaveForms format rules →
        length rules ≤ RULE_LIMIT → rules_in format f relations steps (rules_data relations steps rules) ≡ Ok rules
    unfolding rules_in array_in
    in_again format rules sound flags known few =
        rw (items_back (map (rule_data relations steps) rules), length-map rules (rule_data relations steps), at_most-ok Flows f (length rules) RULE_LIMIT few)
        (list_back (next_rule format f relations steps) (rule_data relations steps) (λ rs. rs) rules (rule_step format rules sound flags known))

    -- the rules of a workflow are read from what they are written as
    pub rules_back : (format : Format) (again : Members) (rules : List Rule) → AreSoundRules (length steps) (length relations) rules → HaveFlags rules →
        HaveForms format rules → length rules ≤ RULE_LIMIT
        → get_member (codes "rules") again ≡ Some (rules_data relations steps rules) → rules_of format f relations steps again ≡ Ok rules
    unfolding rules_of
    rules_back format again rules sound flags known few there = rw (rules_of, there) (in_again format rules sound flags known few)
