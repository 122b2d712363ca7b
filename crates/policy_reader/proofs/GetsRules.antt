-- The rules that are read from a file are sound.
use Rattle.std.proofs.Common.{◌≡◌, ◌≢◌, ℕ, zero, suc, ◌+◌, ◌<◌, ◌≤◌, Bool, true, false, List, [], ◌∷◌, ◌++◌, length, Ok, ◌⊎◌, inl, inr, refl, sym, ◌∙◌, subst}
use Rattle.std.proofs.Common.{arith, not, nat_eq, ◌||◌, length-append}
use Rattle.std.specs.Prelude.{codes, ℤ, pos, negsuc, Some, None, IsTrue, slice_set, ◌==◌}
use Rattle.std.proofs.lemmas.List.{get_or-set_other, length-map, length-replicate}
use Rattle.std.proofs.Math.ListN.{length-set}
use Rattle.std.proofs.lemmas.Bool.Decides.{eqb_tells}
use Rattle.basics.proofs.Booleans.{and_both, bool_cases, eq_back, le_back, or_cases}
use Rattle.wf_names.specs.declared.limits.TheConstants.{RULE_LIMIT, STEP_LIMIT}
use Rattle.toml.specs.Data.{Data, Members, as_integer, get_member}
use Rattle.user_relations.specs.Laws.Relations.{RelationShape, known_names}
use Rattle.constraint_forms.specs.Assign.{is_member, no_steps}
use Rattle.constraint_forms.specs.Rules.{any_from, count_members, names, reads}
use Rattle.constraint_forms.specs.declared.rule.Rule.{Rule}
use Rattle.constraint_forms.specs.declared.rule.Rule.TheVariants as rule
use Rattle.constraint_forms.proofs.Members.{none_member}
use Rattle.policy_book.specs.Laws.Facts.{AreSoundRules, HasMembers, IsSoundRule, IsWithinGroup}
use Rattle.basics.specs.Laws.Reading.{◌>>=◌, check, or_fault}
use Rattle.policy_reader.specs.declared.fault.PolicyKind.TheVariants as kind
use Rattle.policy_reader.specs.declared.fault.PolicyPart.TheVariants.{Flows}
use Rattle.policy_reader.specs.declared.format.Format.{Format}
use Rattle.policy_reader.specs.declared.form.Form.{Form}
use Rattle.policy_reader.specs.declared.form.Form.TheVariants as form
use Rattle.policy_reader.specs.Faults.{fault}
use Rattle.policy_reader.specs.Kept.{HasStepsBelow}
use Rattle.policy_reader.specs.Parts.{array_in, at_least_one, at_most, items, named_in, number_in, once, said, table_in, text_in, value_at}
use Rattle.policy_reader.specs.Rules.{counting_in, counting_keys_in, form_in, group_at, group_in, grouped_in, keys_in, limit_at, limit_in, next_member}
use Rattle.policy_reader.specs.Rules.{next_rule, number_up_to, pair_in, relation_at, relation_in, rule_in, rule_of_form, rules_in, rules_of, step_at, step_in}
use Rattle.policy_reader.proofs.Gets.{Gets, after, and_so, checked, each_gets, few, found, named_number, numbered, weaker}
use Rattle.policy_reader.proofs.Held.{any_set}
use Rattle.policy_reader.proofs.RuleLists.{push_sound}

-- ---- relations and steps

relation_within : (f : ℕ) (relations : List RelationShape) (d : Data) → Gets (λ n. n < length relations + 2) (relation_in f relations d)
relation_within f relations d =
    after (λ n. n < length relations + 2) (text_in Flows f d) (λ text. number_in Flows f (known_names relations) text)
    (λ text. weaker (λ n. n < length (known_names relations)) (λ n. n < length relations + 2) (number_in Flows f (known_names relations) text)
    (numbered Flows f (known_names relations) text)
    (λ n below. omega (arith, below, length-map relations (λ (r : RelationShape). r.name))))

relation_there : (f : ℕ) (relations : List RelationShape) (ms : Members) → Gets (λ n. n < length relations + 2) (relation_at f relations ms)
unfolding relation_at
relation_there f relations ms =
    after (λ n. n < length relations + 2) (value_at Flows f (codes "relation") ms) (relation_in f relations) (λ d. relation_within f relations d)

step_there : (f : ℕ) (steps : List (List ℕ)) (key : List ℕ) (ms : Members) → Gets (λ s. s < length steps) (step_at f steps key ms)
unfolding step_at step_in
step_there f steps key ms = after (λ s. s < length steps) (value_at Flows f key ms) (step_in f steps) (λ d. named_number Flows f steps d)

-- ---- groups

-- a group as it is read: there are only steps below n in it, and one at least, or more to come
record IsGroup (n : ℕ) (group : List Bool) (left : ℕ) : Type 0 where
  pub below : HasStepsBelow n group
  pub long : length group ≡ STEP_LIMIT
  pub some : IsTrue (any_from 0 group (λ _. true)) ⊎ (0 < left)

none_below : (n : ℕ) → HasStepsBelow n no_steps
none_below n s here = let no = none_member s in cc

none_long : length no_steps ≡ STEP_LIMIT
unfolding no_steps
none_long = length-replicate STEP_LIMIT false

set_below : (n s : ℕ) (group : List Bool) → s < n → HasStepsBelow n group → HasStepsBelow n (slice_set group s true)
set_below n s group lt h t here = at (eqb_tells t s)
  where
    at : ((nat_eq t s ≡ true) × (t ≡ s)) ⊎ ((nat_eq t s ≡ false) × (t ≢ s)) → t < n
    at (inl same) = omega (arith, same.1, lt)
    at (inr apart) = h t (sym (get_or-set_other group s t true false apart.1) ∙ here)

member_gets : (f : ℕ) (steps : List (List ℕ)) (group : List Bool) (d : Data) (left : ℕ) → length steps ≤ STEP_LIMIT → IsGroup (length steps) group (left + 1)
    → Gets (λ out. IsGroup (length steps) out left) (next_member f steps group d)
unfolding next_member
member_gets f steps group d left le h =
    and_so (λ s. s < length steps) (λ out. IsGroup (length steps) out left) (named_in Flows f steps d) _ (named_number Flows f steps d)
    (λ s lt. after (λ out. IsGroup (length steps) out left) (once Flows f (said d) (is_member group s)) (λ _. Ok (slice_set group s true))
    (λ _. record {
      below = set_below (length steps) s group lt h.below;
      long = length-set group s true ∙ h.long;
      some = inl (any_set 0 s group (omega (arith, lt, le, h.long)));
    }))

some_count : (n : ℕ) → not (n == 0) ≡ true → 0 < n
some_count zero h = absurd (cc)
some_count (suc n) h = omega arith

some_items : (f n : ℕ) → Gets (λ _. 0 < n) (at_least_one Flows f n)
unfolding at_least_one
some_items f n =
    weaker (λ _. not (n == 0) ≡ true) (λ _. 0 < n) (check (not (n == 0)) (fault kind.Empty Flows f)) (checked (not (n == 0)) (fault kind.Empty Flows f))
    (λ _ h. some_count n h)

group_read : (f : ℕ) (steps : List (List ℕ)) (d : Data) → length steps ≤ STEP_LIMIT → Gets (λ g. IsGroup (length steps) g 0) (group_in f steps d)
unfolding group_in
group_read f steps d le =
    after (λ g. IsGroup (length steps) g 0) (array_in Flows f d) _
    (λ members. and_so (λ _. 0 < length (items members)) (λ g. IsGroup (length steps) g 0) (at_least_one Flows f (length (items members))) _
    (some_items f (length (items members)))
    (λ _ more. each_gets (λ g ds. IsGroup (length steps) g (length ds)) (next_member f steps)
    (λ g x ds h. member_gets f steps g x (length ds) le (subst (λ n. IsGroup (length steps) g n) (omega arith) h))
    no_steps (items members) (record { below = none_below (length steps); long = none_long; some = inr more })))

group_there : (f : ℕ) (steps : List (List ℕ)) (ms : Members) → length steps ≤ STEP_LIMIT → Gets (λ g. IsGroup (length steps) g 0) (group_at f steps ms)
unfolding group_at
group_there f steps ms le = after (λ g. IsGroup (length steps) g 0) (value_at Flows f (codes "group") ms) (group_in f steps) (λ d. group_read f steps d le)

some_step : (n : ℕ) (g : List Bool) → IsGroup n g 0 → IsTrue (any_from 0 g (λ _. true))
some_step n g h = elim h.some [ inl here ↦ here | inr more ↦ absurd (omega (arith, more)) ]

-- ---- numbers of users

up_to : (most : ℕ) (z : ℤ) (l : ℕ) → number_up_to most z ≡ Some l → (0 < l) × (l ≤ most)
up_to most (negsuc n) l e = absurd (cc)
up_to most (pos n) l e = grind (arith, bool_cases, and_both, le_back)

limit_read : (f most : ℕ) (d : Data) → Gets (λ l. (0 < l) × (l ≤ most)) (limit_in f most d)
unfolding limit_in
limit_read f most d =
    after (λ l. (0 < l) × (l ≤ most)) (or_fault (as_integer d) (fault kind.Shape Flows f)) _
    (λ z. weaker (λ l. number_up_to most z ≡ Some l) (λ l. (0 < l) × (l ≤ most)) (or_fault (number_up_to most z) (fault kind.Range Flows f))
    (found (number_up_to most z) (fault kind.Range Flows f)) (λ l e. up_to most z l e))

limit_there : (f most : ℕ) (ms : Members) → Gets (λ l. (0 < l) × (l ≤ most)) (limit_at f most ms)
unfolding limit_at
limit_there f most ms = after (λ l. (0 < l) × (l ≤ most)) (value_at Flows f (codes "limit") ms) (limit_in f most) (λ d. limit_read f most d)

-- ---- rules

one_of : (a b s : ℕ) → ((s == a) || (s == b)) ≡ true → (s ≡ a) ⊎ (s ≡ b)
one_of a b s h = elim (or_cases (s == a) (s == b) h) [ inl here ↦ inl (eq_back s a here) | inr there ↦ inr (eq_back s b there) ]

two_named : (n a b s : ℕ) → a < n → b < n → ((s == a) || (s == b)) ≡ true → s < n
two_named n a b s first second h = elim (one_of a b s h) [ inl here ↦ omega (arith, here, first) | inr there ↦ omega (arith, there, second) ]

group_named : (n a : ℕ) (group : List Bool) (s : ℕ) → a < n → HasStepsBelow n group → ((s == a) || is_member group s) ≡ true → s < n
group_named n a group s here below h =
    elim (or_cases (s == a) (is_member group s) h) [ inl same ↦ let e = eq_back s a same in omega (arith, e, here) | inr there ↦ below s there ]

only : (rho n r : ℕ) → rho < n → (r == rho) ≡ true → r < n
only rho n r lt h = let e = eq_back r rho h in omega (arith, e, lt)

pair_sound : (f : ℕ) (relations : List RelationShape) (steps : List (List ℕ)) (ms : Members)
    → Gets (IsSoundRule (length steps) (length relations)) (pair_in f relations steps ms)
unfolding pair_in
pair_sound f relations steps ms =
    after (IsSoundRule (length steps) (length relations)) (keys_in form.Pair (codes "first") (codes "second") f ms) _
    (λ _. and_so (λ n. n < length relations + 2) (IsSoundRule (length steps) (length relations)) (relation_at f relations ms) _ (relation_there f relations ms)
    (λ rho known. and_so (λ s. s < length steps) (IsSoundRule (length steps) (length relations)) (step_at f steps (codes "first") ms) _
    (step_there f steps (codes "first") ms)
    (λ s first. and_so (λ t. t < length steps) (IsSoundRule (length steps) (length relations)) (step_at f steps (codes "second") ms)
    (λ t. Ok (rule.Pair rho s t)) (step_there f steps (codes "second") ms)
    (λ t second. record {
      names = λ x h. two_named (length steps) s t x first second h;
      known = λ r h. only rho (length relations + 2) r known h;
      members = tt;
    }))))

-- a relation, a group and a step as they are read
record IsGrouping (steps relations : ℕ) (g : ℕ × (List Bool × ℕ)) : Type 0 where
  pub known : g.0 < relations + 2
  pub group : IsGroup steps g.1.0 0
  pub step : g.1.1 < steps

grouping_read : (rule_form : Form) (f : ℕ) (relations : List RelationShape) (steps : List (List ℕ)) (ms : Members) → length steps ≤ STEP_LIMIT
    → Gets (IsGrouping (length steps) (length relations)) (grouped_in rule_form f relations steps ms)
unfolding grouped_in
grouping_read rule_form f relations steps ms le =
    after (IsGrouping (length steps) (length relations)) (keys_in rule_form (codes "group") (codes "step") f ms) _
    (λ _. and_so (λ n. n < length relations + 2) (IsGrouping (length steps) (length relations)) (relation_at f relations ms) _ (relation_there f relations ms)
    (λ rho known. and_so (λ s. s < length steps) (IsGrouping (length steps) (length relations)) (step_at f steps (codes "step") ms) _
    (step_there f steps (codes "step") ms)
    (λ s lt. and_so (λ g. IsGroup (length steps) g 0) (IsGrouping (length steps) (length relations)) (group_at f steps ms) (λ g. Ok (rho, (g, s)))
    (group_there f steps ms le)
    (λ g h. record { known = known; group = h; step = lt }))))

-- a rule that names such a step and group, and reads such a relation
grouped_form : (rule_form : Form) (made : ℕ × (List Bool × ℕ) → Rule) (f : ℕ) (relations : List RelationShape) (steps : List (List ℕ)) (ms : Members)
    → length steps ≤ STEP_LIMIT → ((g : ℕ × (List Bool × ℕ)) (s : ℕ) → names (made g) s ≡ ((s == g.1.1) || is_member g.1.0 s))
    → ((g : ℕ × (List Bool × ℕ)) (x : ℕ) → reads (made g) x ≡ (x == g.0))
    → ((g : ℕ × (List Bool × ℕ)) → any_from 0 g.1.0 (λ _. true) ≡ true → HasMembers (made g))
    → Gets (IsSoundRule (length steps) (length relations)) (grouped_in rule_form f relations steps ms >>= (λ g. Ok (made g)))
grouped_form rule_form made f relations steps ms le named read some =
    and_so (IsGrouping (length steps) (length relations)) (IsSoundRule (length steps) (length relations)) (grouped_in rule_form f relations steps ms)
    (λ g. Ok (made g)) (grouping_read rule_form f relations steps ms le)
    (λ g h. record {
      names = λ s here. group_named (length steps) g.1.1 g.1.0 s h.step h.group.below (sym (named g s) ∙ here);
      known = λ x here. only g.0 (length relations + 2) x h.known (sym (read g x) ∙ here);
      members = some g (some_step (length steps) g.1.0 h.group);
    })

counting_read : (rule_form : Form) (f : ℕ) (steps : List (List ℕ)) (ms : Members) → length steps ≤ STEP_LIMIT
    → Gets (λ c. IsWithinGroup c.0 c.1 × HasStepsBelow (length steps) c.1) (counting_in rule_form f steps ms)
unfolding counting_in
counting_read rule_form f steps ms le =
    let P : ℕ × List Bool → Type 0 = λ c. IsWithinGroup c.0 c.1 × HasStepsBelow (length steps) c.1 in
    after P (counting_keys_in rule_form f ms) _
    (λ _. and_so (λ g. IsGroup (length steps) g 0) P (group_at f steps ms) _ (group_there f steps ms le)
    (λ g h. and_so (λ l. (0 < l) × (l ≤ count_members g)) P (limit_at f (count_members g) ms) (λ l. Ok (l, g)) (limit_there f (count_members g) ms)
    (λ l within. (within, h.below))))

-- a rule that names such a group, and reads no relation
counting_form : (rule_form : Form) (made : ℕ × List Bool → Rule) (f : ℕ) (relations : List RelationShape) (steps : List (List ℕ)) (ms : Members)
    → length steps ≤ STEP_LIMIT → ((c : ℕ × List Bool) (s : ℕ) → names (made c) s ≡ is_member c.1 s)
    → ((c : ℕ × List Bool) (x : ℕ) → reads (made c) x ≡ false) → ((c : ℕ × List Bool) → IsWithinGroup c.0 c.1 → HasMembers (made c))
    → Gets (IsSoundRule (length steps) (length relations)) (counting_in rule_form f steps ms >>= (λ c. Ok (made c)))
counting_form rule_form made f relations steps ms le named read some =
    and_so (λ c. IsWithinGroup c.0 c.1 × HasStepsBelow (length steps) c.1) (IsSoundRule (length steps) (length relations))
    (counting_in rule_form f steps ms) (λ c. Ok (made c)) (counting_read rule_form f steps ms le)
    (λ c h. record {
      names = λ s here. h.1 s (sym (named c s) ∙ here);
      known = λ x here. let no = read c x in absurd (cc);
      members = some c h.0;
    })

form_sound : (rule_form : Form) (f : ℕ) (relations : List RelationShape) (steps : List (List ℕ)) (ms : Members) → length steps ≤ STEP_LIMIT
    → Gets (IsSoundRule (length steps) (length relations)) (rule_of_form rule_form f relations steps ms)
unfolding rule_of_form
form_sound form.Pair f relations steps ms le = pair_sound f relations steps ms
form_sound form.SomeOf f relations steps ms le =
    grouped_form form.SomeOf (λ g. rule.SomeOf g.0 g.1.0 g.1.1) f relations steps ms le (λ g s. refl) (λ g x. refl) (λ g some. some)
form_sound form.AllOf f relations steps ms le =
    grouped_form form.AllOf (λ g. rule.AllOf g.0 g.1.0 g.1.1) f relations steps ms le (λ g s. refl) (λ g x. refl) (λ g some. some)
form_sound form.SomeTo f relations steps ms le =
    grouped_form form.SomeTo (λ g. rule.SomeTo g.0 g.1.1 g.1.0) f relations steps ms le (λ g s. refl) (λ g x. refl) (λ g some. some)
form_sound form.AllTo f relations steps ms le =
    grouped_form form.AllTo (λ g. rule.AllTo g.0 g.1.1 g.1.0) f relations steps ms le (λ g s. refl) (λ g x. refl) (λ g some. some)
form_sound form.AtMost f relations steps ms le =
    counting_form form.AtMost (λ c. rule.AtMost c.0 c.1) f relations steps ms le (λ c s. refl) (λ c x. refl) (λ c within. within)
form_sound form.AtLeast f relations steps ms le =
    counting_form form.AtLeast (λ c. rule.AtLeast c.0 c.1) f relations steps ms le (λ c s. refl) (λ c x. refl) (λ c within. within)

rule_sound : (format : Format) (f : ℕ) (relations : List RelationShape) (steps : List (List ℕ)) (d : Data) → length steps ≤ STEP_LIMIT
    → Gets (IsSoundRule (length steps) (length relations)) (rule_in format f relations steps d)
unfolding rule_in
rule_sound format f relations steps d le =
    after (IsSoundRule (length steps) (length relations)) (table_in Flows f d) _
    (λ ms. after (IsSoundRule (length steps) (length relations)) (value_at Flows f (codes "form") ms) _
    (λ value. after (IsSoundRule (length steps) (length relations)) (form_in format f value) _
    (λ rule_form. form_sound rule_form f relations steps ms le)))

-- rules as they are read, and so many more at most
record AreRules (steps relations : ℕ) (rules : List Rule) (left : ℕ) : Type 0 where
  pub sound : AreSoundRules steps relations rules
  pub few : length rules + left ≤ RULE_LIMIT

next_sound : (format : Format) (f : ℕ) (relations : List RelationShape) (steps : List (List ℕ)) (rules : List Rule) (d : Data) (left : ℕ)
    → length steps ≤ STEP_LIMIT → AreRules (length steps) (length relations) rules (left + 1)
    → Gets (λ out. AreRules (length steps) (length relations) out left) (next_rule format f relations steps rules d)
unfolding next_rule
next_sound format f relations steps rules d left le h =
    and_so (IsSoundRule (length steps) (length relations)) (λ out. AreRules (length steps) (length relations) out left) (rule_in format f relations steps d)
    (λ r. Ok (rules ++ r ∷ [])) (rule_sound format f relations steps d le)
    (λ r here. let longer : length (rules ++ r ∷ []) ≡ length rules + 1 = length-append rules (r ∷ []) in
    record { sound = push_sound (length steps) (length relations) rules r h.sound here; few = omega (arith, longer, h.few) })

listed_sound : (format : Format) (f : ℕ) (relations : List RelationShape) (steps : List (List ℕ)) (d : Data) → length steps ≤ STEP_LIMIT
    → Gets (λ rules. AreRules (length steps) (length relations) rules 0) (rules_in format f relations steps d)
unfolding rules_in
listed_sound format f relations steps d le =
    after (λ rules. AreRules (length steps) (length relations) rules 0) (array_in Flows f d) _
    (λ rules. and_so (λ _. length (items rules) ≤ RULE_LIMIT) (λ out. AreRules (length steps) (length relations) out 0)
    (at_most Flows f RULE_LIMIT (length (items rules))) _ (few Flows f RULE_LIMIT (length (items rules)))
    (λ _ within. each_gets (λ out ds. AreRules (length steps) (length relations) out (length ds)) (next_rule format f relations steps)
    (λ out x ds h. next_sound format f relations steps out x (length ds) le (subst (λ n. AreRules (length steps) (length relations) out n) (omega arith) h))
    [] (items rules) (record { sound = λ k r e. absurd (cc); few = omega (arith, within) })))

pub rules_sound : (format : Format) (f : ℕ) (relations : List RelationShape) (steps : List (List ℕ)) (ms : Members) → length steps ≤ STEP_LIMIT
    → Gets (λ rules. AreSoundRules (length steps) (length relations) rules × (length rules ≤ RULE_LIMIT)) (rules_of format f relations steps ms)
unfolding rules_of
rules_sound format f relations steps ms le =
    elim (get_member (codes "rules") ms) as (λ o. Gets (λ rules. AreSoundRules (length steps) (length relations) rules × (length rules ≤ RULE_LIMIT))
    (elim o [ None ↦ Ok [] | Some d ↦ rules_in format f relations steps d ])) [
      | None ↦ ((λ k r e. absurd (cc)), omega arith)
      | Some d ↦
          weaker (λ rules. AreRules (length steps) (length relations) rules 0)
          (λ rules. AreSoundRules (length steps) (length relations) rules × (length rules ≤ RULE_LIMIT)) (rules_in format f relations steps d)
          (listed_sound format f relations steps d le) (λ rules h. (h.sound, omega (arith, h.few)))
    ]
