-- A model of the clauses is a valid plan.
use Rattle.std.proofs.Common.{◌≡◌, ◌≢◌, refl, sym, ap, subst, ◌∙◌, ℕ, zero, suc, ◌+◌, ◌-◌, ◌<◌, Bool, true, false, not, ◌&&◌, ◌||◌, nat_le, nat_lt, cond}
use Rattle.std.proofs.Common.{eqb, List, [], ◌∷◌, map, length, Option, Some, is_some, slice_get, ◌⊎◌, inl, inr, arith}
use Rattle.std.specs.List.{flat_map, AllByRecursion as Every}
use Rattle.std.specs.Prelude.{ℤ}
use Rattle.std.proofs.lemmas.Bool.{false≢true, eqb-true}
use Rattle.std.proofs.lemmas.Bool.Decides.{eqb_tells}
use Rattle.std.proofs.lemmas.List.Elements.{recursion_from_All}
use Rattle.basics.proofs.Booleans.{and_both, and_from, bool_cases, differ, le_yes, lt_back, lt_back_no, or_left, or_right, same_by}
use Rattle.constraint_forms.specs.declared.rule.Rule.{Rule}
use Rattle.constraint_forms.specs.declared.rule.Rule.TheVariants as rule
use Rattle.constraint_forms.specs.Assign.{is_member, planned, user_at}
use Rattle.constraint_forms.specs.Rules.{all_from, any_from, different, is_satisfied, names, turned, users_from}
use Rattle.constraint_forms.proofs.RuleLaws.{first-named, second-named, step-named, member-named}
use Rattle.policy_book.specs.Laws.Facts.{HasMembers, IsWithinGroup}
use Rattle.policy_book.specs.Laws.Plans.{Problem}
use Rattle.cnf_export.specs.Laws.Clauses.{no_to, satisfies, yes_to}
use Rattle.cnf_export.specs.Laws.Encodings.{Encoding, blocks, clause, clauses_of, count_groups, counts, encoding_of, group_clauses, groups, has, height, may_be}
use Rattle.cnf_export.specs.Laws.Encodings.{members, numbers, rule_groups, rules_groups, step_blocks, step_groups, takes, users_who}
use Rattle.cnf_export.specs.Models.{ModelsArePlans, has_some, last_below, plan_said}
use Rattle.cnf_export.specs.declared.group.Group.{Group}
use Rattle.cnf_export.specs.declared.group.Group.TheVariants.{Outside, Someone, Once, Pair, SomeOf, Taking}
use Rattle.cnf_export.proofs.Every.{every_flat, every_left, every_map, every_number, every_passing, every_right}
use Rattle.cnf_export.proofs.Satisfied.{OneOf, no_or, one_joined, one_listed, one_no}
use Rattle.wf_names.specs.UserSets.{count_below}
use Rattle.wf_names.proofs.Counts.{count_same}
use Rattle.cnf_export.proofs.Among.{among_from, different_counted, member_among, some_counted}
use Rattle.cnf_export.proofs.Counters.{counted}
use Rattle.cnf_export.specs.Terms.{pair_group, pair_group_at}
use Rattle.cnf_export.proofs.CountClauses.{ended_least, ended_most, is_counter, taken_by, takes_where}
use Rattle.cnf_export.proofs.Steps.{GroupHolds, Holds, outside_free, part_holds, same_user, someone_has}

-- ---- the last number that passes

pub last_passes : (n : ℕ) (test : ℕ → Bool) (u : ℕ) → u < n → test u ≡ true → (last_below n test < n) × (test (last_below n test) ≡ true)
last_passes zero test u below passes = absurd (omega (arith, below))
last_passes (suc n) test u below passes = at (test n) refl (eqb_tells u n) (λ apart. last_passes n test u (omega (arith, below, apart)) passes)
  where
    at : (b : Bool) → test n ≡ b → ((eqb u n ≡ true) × (u ≡ n)) ⊎ ((eqb u n ≡ false) × (u ≢ n)) →
        (u ≢ n → (last_below n test < n) × (test (last_below n test) ≡ true)) →
        (cond b n (last_below n test) < suc n) × (test (cond b n (last_below n test)) ≡ true)
    at true is one before = (omega arith, is)
    at false is (inl same) before = absurd (false≢true (sym is ∙ ap test (sym same.1) ∙ passes))
    at false is (inr apart) before = let rest = before apart.1 in let low = rest.0 in (omega (arith, low), rest.1)

-- ---- plans made by a function

length-made : (f : ℕ → ℕ) (k n : ℕ) → length (map f (numbers k n)) ≡ n
length-made f k zero = refl
length-made f k (suc n) = ap suc (length-made f (k + 1) n)

made_at : (f : ℕ → ℕ) (k n s : ℕ) → s < n → planned (map f (numbers k n)) s ≡ f (k + s)
made_at f k zero s below = absurd (omega (arith, below))
made_at f k (suc n) zero below = let same : k ≡ k + 0 = omega arith in ap f same
made_at f k (suc n) (suc s) below = let same : k + 1 + s ≡ k + suc s = omega arith in made_at f (k + 1) n s (omega (arith, below)) ∙ ap f same

-- ---- members of groups of steps

all_members : (k : ℕ) (group : List Bool) (p : ℕ → Bool) → ((x y : ℕ) → is_member group x ≡ true → y ≡ k + x → p y ≡ true) → all_from k group p ≡ true
all_members k [] p each = refl
all_members k (b ∷ bs) p each = at b refl (all_members (k + 1) bs p (λ x y one same. each (suc x) y one (omega (arith, same))))
  where
    at : (c : Bool) → b ≡ c → all_from (k + 1) bs p ≡ true → ((not c || p k) && all_from (k + 1) bs p) ≡ true
    at true is rest = and_from (p k) (all_from (k + 1) bs p) (each 0 k is (omega arith)) rest
    at false is rest = rest

any_member : (k : ℕ) (group : List Bool) (p : ℕ → Bool) (x y : ℕ) → is_member group x ≡ true → y ≡ k + x → p y ≡ true → any_from k group p ≡ true
any_member k [] p x y one same passes = absurd (false≢true one)
any_member k (b ∷ bs) p zero y one same passes = grind (arith, or_left, and_from)
any_member k (b ∷ bs) p (suc x) y one same passes = or_right (b && p k) (any_from (k + 1) bs p) (any_member (k + 1) bs p x y one (omega (arith, same)) passes)

member_within : (group : List Bool) (x : ℕ) → is_member group x ≡ true → x < length group
member_within [] x one = absurd (false≢true one)
member_within (b ∷ bs) x one = grind (arith, (member_within bs))

-- ---- who has a step

-- the user of a step in a model
pub record HasUser (e : Encoding) (m : ℕ → Bool) (s u : ℕ) : Type 0 where
  pub below : u < e.users
  pub may : e.may_have s u ≡ true
  pub has_it : m (has e s u) ≡ true

-- the clauses of a step hold
pub record StepHolds (e : Encoding) (m : ℕ → Bool) (s : ℕ) : Type 0 where
  pub outside : GroupHolds e m (Outside s)
  pub someone : GroupHolds e m (Someone s)
  pub once : GroupHolds e m (Once s)

-- the user whom a plan is made of
pub user_of : (e : Encoding) (m : ℕ → Bool) (s : ℕ) → StepHolds e m s → HasUser e m s (last_below e.users (λ u. m (has e s u)))
user_of e m s h =
    let one = someone_has e m s h.someone in
    let below : one.at < e.users = let high = one.high in omega (arith, high) in
    let last = last_passes e.users (λ u. m (has e s u)) one.at below one.is in
    record {
      below = last.0;
      may = may last;
      has_it = last.1;
    }
  where
    may : (last_below e.users (λ u. m (has e s u)) < e.users) × (m (has e s (last_below e.users (λ u. m (has e s u)))) ≡ true) →
        e.may_have s (last_below e.users (λ u. m (has e s u))) ≡ true
    may last = elim (bool_cases (e.may_have s (last_below e.users (λ u. m (has e s u))))) [
      | inl one ↦ one
      | inr no_one ↦ absurd (differ (m (has e s (last_below e.users (λ u. m (has e s u))))) last.1
          (outside_free e m s h.outside (last_below e.users (λ u. m (has e s u))) last.0 no_one))
    ]

-- ---- rules

pair_related : (e : Encoding) (m : ℕ → Bool) (rho s t u v : ℕ) → GroupHolds e m (Pair rho s t) → HasUser e m s u → HasUser e m t v → e.related rho u v ≡ true
pair_related e m rho s t u v h first second = elim (bool_cases (e.related rho u v)) [
  | inl related ↦ related
  | inr apart ↦
      let here = part_holds e m (Pair rho s t) h u first.below in
      let listed =
      subst (λ b. Every (λ k. Holds m (clause e (Pair rho s t) u k)) (cond b (users_who e (λ w. e.may_have t w && not (e.related rho u w))) []))
      first.may here in
      let both =
      every_passing (λ k. Holds m (clause e (Pair rho s t) u k)) (λ w. e.may_have t w && not (e.related rho u w)) 0 e.users listed v (omega arith)
      (let below = second.below in omega (arith, below)) (and_from (e.may_have t v) (not (e.related rho u v)) second.may (ap not apart)) in
      absurd (differ (m (has e t v)) second.has_it (one_no m (has e t v) (no_or m (has e s u) (no_to (has e t v) ∷ []) both first.has_it)))
]

-- the plan of a model gives a step a user
plan_user : (e : Encoding) (m : ℕ → Bool) → ((s : ℕ) → s < e.steps → StepHolds e m s) → (s : ℕ) → s < e.steps → HasUser e m s (planned (plan_said e m) s)
plan_user e m h s below = grind (arith, made_at, user_of)

-- every member of a group is related to a step's user, or the other way round
all_related : (e : Encoding) (m : ℕ → Bool) (back : Bool) (rho : ℕ) (group : List Bool) (s : ℕ) → ((t : ℕ) → t < e.steps → StepHolds e m t) →
    ((x : ℕ) → is_member group x ≡ true → x < e.steps) → s < e.steps →
    Every (λ x. GroupHolds e m (pair_group back rho x s)) (members group) →
    all_from 0 group (λ x. turned back e.related rho (planned (plan_said e m) x) (planned (plan_said e m) s)) ≡ true
all_related e m back rho group s h within inside holds =
    all_members 0 group (λ x. turned back e.related rho (planned (plan_said e m) x) (planned (plan_said e m) s)) (λ x y one same.
    let here : x ≡ y = omega (arith, same) in
    subst (λ z. turned back e.related rho (planned (plan_said e m) z) (planned (plan_said e m) s) ≡ true) here
    (at back x (every_passing (λ z. GroupHolds e m (pair_group back rho z s)) (is_member group) 0 (length group) holds x (omega arith)
    (let low = member_within group x one in omega (arith, low)) one)
    (plan_user e m h x (within x one)) (plan_user e m h s inside)))
  where
    at : (b : Bool) (x : ℕ) → GroupHolds e m (pair_group b rho x s) → HasUser e m x (planned (plan_said e m) x) → HasUser e m s (planned (plan_said e m) s) →
        turned b e.related rho (planned (plan_said e m) x) (planned (plan_said e m) s) ≡ true
    at false x pair one two = pair_related e m rho x s (planned (plan_said e m) x) (planned (plan_said e m) s) pair one two
    at true x pair one two = pair_related e m rho s x (planned (plan_said e m) s) (planned (plan_said e m) x) pair two one

-- some member of a group is related to a step's user, or the other way round
some_related : (e : Encoding) (m : ℕ → Bool) (back : Bool) (rho : ℕ) (group : List Bool) (s : ℕ) → ((t : ℕ) → t < e.steps → StepHolds e m t) →
    ((x : ℕ) → is_member group x ≡ true → x < e.steps) → s < e.steps →
    GroupHolds e m (SomeOf rho back group s) → any_from 0 group (λ x. turned back e.related rho (planned (plan_said e m) x) (planned (plan_said e m) s)) ≡ true
some_related e m back rho group s h within inside holds = at (one_joined m listed (is_member group) 0 (length group) rest)
  where
    v : ℕ
    v = planned (plan_said e m) s

    whose : HasUser e m s v
    whose = plan_user e m h s inside

    listed : ℕ → List ℤ
    listed t = map (λ u. yes_to (has e t u)) (users_who e (λ u. e.may_have t u && turned back e.related rho u v))

    rest : satisfies m (flat_map listed (members group)) ≡ true
    rest = no_or m (has e s v) (flat_map listed (members group))
        (every_passing (λ k. Holds m (clause e (SomeOf rho back group s) 0 k)) (e.may_have s) 0 e.users (part_holds e m (SomeOf rho back group s) holds 0
        (omega arith)) v (omega arith) (let below = whose.below in omega (arith, below)) whose.may) whose.has_it

    at : OneOf (is_member group) 0 (length group) (λ t. satisfies m (listed t) ≡ true) →
        any_from 0 group (λ x. turned back e.related rho (planned (plan_said e m) x) v) ≡ true
    at one =
        let user = one_listed m (has e one.at) (λ u. e.may_have one.at u && turned back e.related rho u v) 0 e.users one.is in
        let both = and_both (e.may_have one.at user.at) (turned back e.related rho user.at v) user.passes in
        let there : one.at < e.steps = within one.at one.passes in
        let planned_user = plan_user e m h one.at there in
        let same = same_user e m one.at (h one.at there).once user.at (planned (plan_said e m) one.at) (let high = user.high in omega (arith, high))
        planned_user.below user.is planned_user.has_it in
        any_member 0 group (λ x. turned back e.related rho (planned (plan_said e m) x) v) one.at one.at one.passes (omega arith)
        (subst (λ u. turned back e.related rho u v ≡ true) same both.1)

-- ---- rules that count

-- a user has some step of a group in the model exactly where one has in the plan
group_taken : (e : Encoding) (m : ℕ → Bool) (block : ℕ) (group : List Bool) → ((t : ℕ) → t < e.steps → StepHolds e m t) →
    ((x : ℕ) → is_member group x ≡ true → x < e.steps) → GroupHolds e m (Taking block group) →
    (u : ℕ) → u < e.users → m (takes e block u) ≡ has_some group (plan_said e m) u
group_taken e m block group h within holds u below = same_by (m (takes e block u)) (has_some group (plan_said e m) u) to from
  where
    to : m (takes e block u) ≡ true → has_some group (plan_said e m) u ≡ true
    to one =
        let member = taken_by e m block group u (part_holds e m (Taking block group) holds u below) one in
        let inside : member.at < e.steps = within member.at member.passes in
        let whose = plan_user e m h member.at inside in
        let same = same_user e m member.at (h member.at inside).once u (planned (plan_said e m) member.at) below whose.below member.is whose.has_it in
        among_from 0 group (planned (plan_said e m)) member.at member.at u member.passes (omega arith) (sym same)

    from : has_some group (plan_said e m) u ≡ true → m (takes e block u) ≡ true
    from one =
        let member = member_among 0 group (planned (plan_said e m)) u one in
        let same : member.at ≡ member.place = let place = member.same in omega (arith, place) in
        let inside : member.at < e.steps = within member.at member.member in
        let whose = plan_user e m h member.at inside in
        takes_where e m block group u (part_holds e m (Taking block group) holds u below) member.at member.member member.below
        (subst (λ v. m (has e member.at v) ≡ true) (ap (planned (plan_said e m)) same ∙ member.user) whose.has_it)

-- the clauses of a rule that counts say how many users its steps have in the plan
group_counted : (e : Encoding) (m : ℕ → Bool) (block : ℕ) (most : Bool) (limit : ℕ) (group : List Bool) → ((t : ℕ) → t < e.steps → StepHolds e m t) →
    ((x : ℕ) → is_member group x ≡ true → x < e.steps) →
    Every (GroupHolds e m) (count_groups block most limit group) → (u j : ℕ) → suc u ≡ e.users → j < height most limit →
    m (counts e block (height most limit) u j) ≡ nat_lt j (different (users_from 0 group (λ s. Some (planned (plan_said e m) s))))
group_counted e m block most limit group h within holds u j last less =
    let z = λ (w : ℕ). m (takes e block w) in
    counted z (λ v i. m (counts e block (height most limit) v i)) e.users (height most limit) (is_counter e m block most limit holds.1.0) u j
    (omega (arith, last)) less
    ∙ ap (λ n. nat_lt j (count_below n z)) last
    ∙ ap (nat_lt j) (count_same e.users z (has_some group (plan_said e m)) (group_taken e m block group h within holds.0)
    ∙ sym (different_counted e.users (users_from 0 group (λ s. Some (planned (plan_said e m) s))) (λ w one.
    let member = member_among 0 group (planned (plan_said e m)) w one in
    let same : member.at ≡ member.place = let place = member.same in omega (arith, place) in
    subst (λ v. v < e.users) (ap (planned (plan_said e m)) same ∙ member.user) (plan_user e m h member.at (within member.at member.member)).below)))

-- a group with members has a user, and so there is a last one
last_user : (e : Encoding) (m : ℕ → Bool) (group : List Bool) (limit : ℕ) → ((t : ℕ) → t < e.steps → StepHolds e m t) →
    ((x : ℕ) → is_member group x ≡ true → x < e.steps) → IsWithinGroup limit group → (u : ℕ) × (suc u ≡ e.users)
last_user e m group limit h within some =
    let bounds = some in
    let low = bounds.0 in
    let high = bounds.1 in
    let member = some_counted group (omega (arith, low, high)) in
    let below = (plan_user e m h member.at (within member.at member.member)).below in
    (e.users - 1, omega (arith, below))

most_obeyed : (e : Encoding) (m : ℕ → Bool) (block limit : ℕ) (group : List Bool) → ((t : ℕ) → t < e.steps → StepHolds e m t) →
    ((x : ℕ) → is_member group x ≡ true → x < e.steps) → IsWithinGroup limit group →
    Every (GroupHolds e m) (count_groups block true limit group) → nat_le (different (users_from 0 group (λ s. Some (planned (plan_said e m) s)))) limit ≡ true
most_obeyed e m block limit group h within some holds =
    let last = last_user e m group limit h within some in
    let ended : m (counts e block (limit + 1) last.0 limit) ≡ false = ended_most e m block limit last.0 last.1 holds.1.1.0 in
    let few = lt_back_no limit (different (users_from 0 group (λ s. Some (planned (plan_said e m) s))))
    (sym (group_counted e m block true limit group h within holds last.0 limit last.1 (omega arith)) ∙ ended) in
    le_yes _ limit few

least_obeyed : (e : Encoding) (m : ℕ → Bool) (block limit : ℕ) (group : List Bool) → ((t : ℕ) → t < e.steps → StepHolds e m t) →
    ((x : ℕ) → is_member group x ≡ true → x < e.steps) → IsWithinGroup limit group →
    Every (GroupHolds e m) (count_groups block false limit group) → nat_le limit (different (users_from 0 group (λ s. Some (planned (plan_said e m) s)))) ≡ true
least_obeyed e m block limit group h within some holds =
    let last = last_user e m group limit h within some in
    let low : 0 < limit = some.0 in
    let ended : m (counts e block limit last.0 (limit - 1)) ≡ true = ended_least e m block limit last.0 last.1 holds.1.1.0 in
    let many = lt_back (limit - 1) (different (users_from 0 group (λ s. Some (planned (plan_said e m) s))))
    (sym (group_counted e m block false limit group h within holds last.0 (limit - 1) last.1 (omega (arith, low))) ∙ ended) in
    le_yes limit _ (omega (arith, many, low))

rule_obeyed : (e : Encoding) (m : ℕ → Bool) (block : ℕ) (r : Rule) → ((s : ℕ) → s < e.steps → StepHolds e m s) →
    ((s : ℕ) → names r s ≡ true → s < e.steps) → HasMembers r → Every (GroupHolds e m) (rule_groups block r) →
    is_satisfied e.related r (planned (plan_said e m)) ≡ true
rule_obeyed e m block (rule.Pair rho s t) h within some holds =
    pair_related e m rho s t (planned (plan_said e m) s) (planned (plan_said e m) t) holds.0 (plan_user e m h s (within s (first-named rho s t)))
    (plan_user e m h t (within t (second-named rho s t)))
rule_obeyed e m block (rule.AllOf rho group s) h within some holds =
    all_related e m false rho group s h (λ x one. within x (member-named rho group s x one)) (within s (step-named rho group s))
    (every_map (GroupHolds e m) (pair_group_at false rho s) (members group) holds)
rule_obeyed e m block (rule.SomeOf rho group s) h within some holds =
    some_related e m false rho group s h (λ x one. within x (member-named rho group s x one)) (within s (step-named rho group s)) holds.0
rule_obeyed e m block (rule.AllTo rho s group) h within some holds =
    all_related e m true rho group s h (λ x one. within x (member-named rho group s x one)) (within s (step-named rho group s))
    (every_map (GroupHolds e m) (pair_group_at true rho s) (members group) holds)
rule_obeyed e m block (rule.SomeTo rho s group) h within some holds =
    some_related e m true rho group s h (λ x one. within x (member-named rho group s x one)) (within s (step-named rho group s)) holds.0
rule_obeyed e m block (rule.AtMost limit group) h within some holds = most_obeyed e m block limit group h within some holds
rule_obeyed e m block (rule.AtLeast limit group) h within some holds = least_obeyed e m block limit group h within some holds

-- the groups of each rule
rule_at : (P : Group → Type 0) (block : ℕ) (rules : List Rule) (k : ℕ) (r : Rule) → slice_get rules k ≡ Some r → Every P (rules_groups block rules) →
    (b : ℕ) × Every P (rule_groups b r)
rule_at P block [] k r is h = absurd (false≢true (ap is_some is))
rule_at P block (q ∷ rules) zero r is h = grind (arith, every_left)
rule_at P block (q ∷ rules) (suc k) r is h =
    rule_at P (block + blocks q) rules k r is (every_right P (rule_groups block q) (rules_groups (block + blocks q) rules) h)

-- ---- the whole

step_holds : (e : Encoding) (m : ℕ → Bool) (rules : List Rule) → Every (GroupHolds e m) (groups e.steps rules) → (s : ℕ) → s < e.steps → StepHolds e m s
step_holds e m rules h s below =
    let steps = every_flat (GroupHolds e m) step_groups (numbers 0 e.steps)
    (every_left (GroupHolds e m) (flat_map step_groups (numbers 0 e.steps)) (rules_groups (step_blocks e.steps) rules) h) in
    let here = every_number (λ t. Every (GroupHolds e m) (step_groups t)) 0 e.steps steps s (omega arith) (omega (arith, below)) in
    record { outside = here.0; someone = here.1.0; once = here.1.1.0 }

-- whoever an assigned step may have is the one assigned
kept_user : (p : Problem) (finished : List Bool) (s u v : ℕ) (o : Option ℕ) → o ≡ Some v → may_be p finished s o u ≡ true → u ≡ v
kept_user p finished s u v o is may = grind (arith, and_both, eqb-true)

-- whoever a step that is not finished may have is authorised
may_authorised : (p : Problem) (finished : List Bool) (s u : ℕ) (o : Option ℕ) → is_member finished s ≡ false → may_be p finished s o u ≡ true →
    p.authorised s u ≡ true
may_authorised p finished s u o open_ may = grind (arith, and_both, eqb-true)

pub models_are_plans : ModelsArePlans
models_are_plans p assigned finished m sound within model =
    let e = encoding_of p assigned finished in
    let holds = every_flat (Holds m) (group_clauses e) (groups p.steps p.rules) (recursion_from_All (Holds m) (clauses_of p assigned finished) model) in
    let steps = step_holds e m p.rules holds in
    let may = λ (s : ℕ) (below : s < p.steps).
    (and_both (nat_lt s p.steps) (may_be p finished s (user_at assigned s) (planned (plan_said e m) s)) (plan_user e m steps s below).may).1 in
    record {
      whole = length-made (λ s. last_below e.users (λ u. m (has e s u))) 0 e.steps;
      known = λ s below. (plan_user e m steps s below).below;
      keeps = λ s u is. ap Some (kept_user p finished s (planned (plan_said e m) s) u (user_at assigned s) is (may s (within.steps s u is)));
      allowed = λ s below open_. may_authorised p finished s (planned (plan_said e m) s) (user_at assigned s) open_ (may s below);
      obeyed = λ k r is.
          let here = rule_at (GroupHolds e m) (step_blocks e.steps) p.rules k r is
          (every_right (GroupHolds e m) (flat_map step_groups (numbers 0 e.steps)) (rules_groups (step_blocks e.steps) p.rules) holds) in
          rule_obeyed e m here.0 r steps (sound.named k r is) (sound.members k r is) here.1;
    }
