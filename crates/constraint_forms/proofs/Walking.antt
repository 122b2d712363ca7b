-- What is said of the members of a set from one on, where only the members are looked at.
use Rattle.std.proofs.Common.{◌≡◌, ℕ, zero, suc, ◌+◌, ◌-◌, ◌<◌, ◌≤◌, Bool, true, false, not, cond, ◌&&◌, ◌||◌, List, [], ◌∷◌, Option, is_none}
use Rattle.std.proofs.Common.{is_some, length, drop, refl, sym, ap, ◌∙◌, arith}
use Rattle.std.proofs.lemmas.List.{drop_all}
use Rattle.wf_names.specs.declared.limits.TheConstants.{STEP_LIMIT}
use Rattle.constraint_forms.specs.Assign.{is_member, IsNextStep}
use Rattle.constraint_forms.specs.Kept.{counts_before}
use Rattle.constraint_forms.specs.Rules.{all_from, any_from, different, free_from, is_among, user_onto, users_from}
use Rattle.constraint_forms.proofs.Leaving.{next_flag, one_less, one_more}

-- what passes over a step that is no member
abbrev PassesOver : {X : Type 0} → (ℕ → List Bool → X) → Type 0
PassesOver walk = (k : ℕ) (bs : List Bool) → walk k (false ∷ bs) ≡ walk (k + 1) bs

-- the members from a step on are those from a later one on, where there is none between
passed : {X : Type 0} (walk : ℕ → List Bool → X) → PassesOver walk → (group : List Bool) (from n : ℕ) → from + n ≤ length group
    → ((t : ℕ) → from ≤ t → t < from + n → is_member group t ≡ false) → walk from (drop from group) ≡ walk (from + n) (drop (from + n) group)
passed walk over group from zero within none = grind arith
passed walk over group from (suc n) within none = grind (arith, next_flag, (passed walk over group from n))

-- the next member comes first
pub next_walked : {X : Type 0} (walk : ℕ → List Bool → X) → PassesOver walk → (group : List Bool) (from s : ℕ) → length group ≡ STEP_LIMIT
    → IsNextStep group from s → walk from (drop from group) ≡ walk s (true ∷ drop (s + 1) group)
next_walked walk over group from s len next =
    let is : from + (s - from) ≡ s = omega (arith, next.from_on) in
    let within : s < length group = omega (arith, next.within, len) in
    passed walk over group from (s - from) (omega (arith, is, within)) (λ t h lt. next.least t h (omega (arith, lt, is)))
    ∙ ap (λ k. walk k (drop k group)) is
    ∙ ap (walk s) (next_flag group s true within next.member)

-- no member is left
pub none_walked : {X : Type 0} (walk : ℕ → List Bool → X) → PassesOver walk → (group : List Bool) (from : ℕ) → length group ≡ STEP_LIMIT → from ≤ STEP_LIMIT
    → ((t : ℕ) → from ≤ t → is_member group t ≡ false) → walk from (drop from group) ≡ walk STEP_LIMIT []
none_walked walk over group from len below none =
    let is : from + (STEP_LIMIT - from) ≡ STEP_LIMIT = omega (arith, below) in
    passed walk over group from (STEP_LIMIT - from) (omega (arith, is, len)) (λ t h lt. none t h)
    ∙ ap (λ k. walk k (drop k group)) is
    ∙ ap (walk STEP_LIMIT) (drop_all STEP_LIMIT group (omega (arith, len)))

pub any_next : (p : ℕ → Bool) (group : List Bool) (from s : ℕ) → length group ≡ STEP_LIMIT → IsNextStep group from s
    → any_from from (drop from group) p ≡ (p s || any_from (s + 1) (drop (s + 1) group) p)
any_next p = next_walked (λ k bs. any_from k bs p) (λ k bs. refl)

pub any_end : (p : ℕ → Bool) (group : List Bool) (from : ℕ) → length group ≡ STEP_LIMIT → from ≤ STEP_LIMIT
    → ((t : ℕ) → from ≤ t → is_member group t ≡ false) → any_from from (drop from group) p ≡ false
any_end p = none_walked (λ k bs. any_from k bs p) (λ k bs. refl)

pub all_next : (p : ℕ → Bool) (group : List Bool) (from s : ℕ) → length group ≡ STEP_LIMIT → IsNextStep group from s
    → all_from from (drop from group) p ≡ (p s && all_from (s + 1) (drop (s + 1) group) p)
all_next p = next_walked (λ k bs. all_from k bs p) (λ k bs. refl)

pub all_end : (p : ℕ → Bool) (group : List Bool) (from : ℕ) → length group ≡ STEP_LIMIT → from ≤ STEP_LIMIT
    → ((t : ℕ) → from ≤ t → is_member group t ≡ false) → all_from from (drop from group) p ≡ true
all_end p = none_walked (λ k bs. all_from k bs p) (λ k bs. refl)

pub users_next : (f : ℕ → Option ℕ) (group : List Bool) (from s : ℕ) → length group ≡ STEP_LIMIT → IsNextStep group from s
    → users_from from (drop from group) f ≡ user_onto (f s) (users_from (s + 1) (drop (s + 1) group) f)
users_next f = next_walked (λ k bs. users_from k bs f) (λ k bs. refl)

pub users_end : (f : ℕ → Option ℕ) (group : List Bool) (from : ℕ) → length group ≡ STEP_LIMIT → from ≤ STEP_LIMIT
    → ((t : ℕ) → from ≤ t → is_member group t ≡ false) → users_from from (drop from group) f ≡ []
users_end f = none_walked (λ k bs. users_from k bs f) (λ k bs. refl)

pub free_next : (f : ℕ → Option ℕ) (group : List Bool) (from s : ℕ) → length group ≡ STEP_LIMIT → IsNextStep group from s
    → free_from from (drop from group) f ≡ cond (is_none (f s)) 1 0 + free_from (s + 1) (drop (s + 1) group) f
free_next f = next_walked (λ k bs. free_from k bs f) (λ k bs. refl)

pub free_end : (f : ℕ → Option ℕ) (group : List Bool) (from : ℕ) → length group ≡ STEP_LIMIT → from ≤ STEP_LIMIT
    → ((t : ℕ) → from ≤ t → is_member group t ≡ false) → free_from from (drop from group) f ≡ 0
free_end f = none_walked (λ k bs. free_from k bs f) (λ k bs. refl)

-- a user before others counts where the user is not among them
pub different_onto : (o : Option ℕ) (us : List ℕ) → different (user_onto o us) ≡ cond (counts_before o us) 1 0 + different us
different_onto o us = grind arith

pub among_onto : (o : Option ℕ) (us : List ℕ) (u : ℕ) → is_among (user_onto o us) u ≡ (is_among (user_onto o []) u || is_among us u)
among_onto o us u = grind arith

-- ---- what a loop over the members knows, from one member to the next

pub any_stop : (p : ℕ → Bool) (group : List Bool) (from s : ℕ) (left : Bool) → length group ≡ STEP_LIMIT → IsNextStep group from s
    → p s ≡ true → any_from from (drop from group) p ≡ left → true ≡ left
any_stop p group from s left len next holds before =
    sym (any_next p group from s len next ∙ ap (λ b. b || any_from (s + 1) (drop (s + 1) group) p) holds) ∙ before

pub any_go : (p : ℕ → Bool) (group : List Bool) (from s n : ℕ) (left : Bool) → length group ≡ STEP_LIMIT → IsNextStep group from s → n ≡ s
    → p s ≡ false → any_from from (drop from group) p ≡ left → any_from (n + 1) (drop (n + 1) group) p ≡ left
any_go p group from s n left len next same fails before =
    ap (λ k. any_from (k + 1) (drop (k + 1) group) p) same
    ∙ sym (any_next p group from s len next ∙ ap (λ b. b || any_from (s + 1) (drop (s + 1) group) p) fails) ∙ before

pub all_stop : (p : ℕ → Bool) (group : List Bool) (from s : ℕ) (left : Bool) → length group ≡ STEP_LIMIT → IsNextStep group from s
    → p s ≡ false → all_from from (drop from group) p ≡ left → false ≡ left
all_stop p group from s left len next fails before =
    sym (all_next p group from s len next ∙ ap (λ b. b && all_from (s + 1) (drop (s + 1) group) p) fails) ∙ before

pub all_go : (p : ℕ → Bool) (group : List Bool) (from s n : ℕ) (left : Bool) → length group ≡ STEP_LIMIT → IsNextStep group from s → n ≡ s
    → p s ≡ true → all_from from (drop from group) p ≡ left → all_from (n + 1) (drop (n + 1) group) p ≡ left
all_go p group from s n left len next same holds before =
    ap (λ k. all_from (k + 1) (drop (k + 1) group) p) same
    ∙ sym (all_next p group from s len next ∙ ap (λ b. b && all_from (s + 1) (drop (s + 1) group) p) holds) ∙ before

pub none_of : (o : Option ℕ) (b : Bool) → is_some o ≡ not b → b ≡ is_none o
none_of o b h = grind arith

pub at_most_one : (b : Bool) → cond b 1 0 ≤ 1
at_most_one b = grind arith

pub free_go : (f : ℕ → Option ℕ) (group : List Bool) (from s n count count' left : ℕ) (b : Bool) → length group ≡ STEP_LIMIT → IsNextStep group from s → n ≡ s
    → b ≡ is_none (f s) → count' ≡ count + cond b 1 0 → count + free_from from (drop from group) f ≡ left →
    count' + free_from (n + 1) (drop (n + 1) group) f ≡ left
free_go f group from s n count count' left b len next same is more before = grind (arith, free_next)

pub users_go : (f : ℕ → Option ℕ) (group : List Bool) (from s n count count' left : ℕ) (b : Bool) → length group ≡ STEP_LIMIT → IsNextStep group from s → n ≡ s
    → b ≡ counts_before (f s) (users_from (s + 1) (drop (s + 1) group) f) → count' ≡ count + cond b 1 0
    → count + different (users_from from (drop from group) f) ≡ left → count' + different (users_from (n + 1) (drop (n + 1) group) f) ≡ left
users_go f group from s n count count' left b len next same is more before =
    let others = users_from (s + 1) (drop (s + 1) group) f in
    let rest = ap (λ k. different (users_from (k + 1) (drop (k + 1) group) f)) same in
    let first = ap different (users_next f group from s len next) ∙ different_onto (f s) others ∙ ap (λ t. cond t 1 0 + different others) (sym is) in
    omega (arith, rest, first, more, before)

-- a user among those of the members from one on
pub among_next : (f : ℕ → Option ℕ) (group : List Bool) (from s u : ℕ) → length group ≡ STEP_LIMIT → IsNextStep group from s
    → is_among (users_from from (drop from group) f) u ≡ (is_among (user_onto (f s) []) u || is_among (users_from (s + 1) (drop (s + 1) group) f) u)
among_next f group from s u len next =
    ap (λ us. is_among us u) (users_next f group from s len next) ∙ among_onto (f s) (users_from (s + 1) (drop (s + 1) group) f) u

pub among_stop : (f : ℕ → Option ℕ) (group : List Bool) (from s u : ℕ) (left : Bool) → length group ≡ STEP_LIMIT → IsNextStep group from s
    → is_among (user_onto (f s) []) u ≡ true → is_among (users_from from (drop from group) f) u ≡ left → true ≡ left
among_stop f group from s u left len next holds before =
    sym (among_next f group from s u len next ∙ ap (λ b. b || is_among (users_from (s + 1) (drop (s + 1) group) f) u) holds) ∙ before

pub among_go : (f : ℕ → Option ℕ) (group : List Bool) (from s n u : ℕ) (left : Bool) → length group ≡ STEP_LIMIT → IsNextStep group from s → n ≡ s
    → is_among (user_onto (f s) []) u ≡ false → is_among (users_from from (drop from group) f) u ≡ left
    → is_among (users_from (n + 1) (drop (n + 1) group) f) u ≡ left
among_go f group from s n u left len next same fails before =
    ap (λ k. is_among (users_from (k + 1) (drop (k + 1) group) f) u) same
    ∙ sym (among_next f group from s u len next ∙ ap (λ b. b || is_among (users_from (s + 1) (drop (s + 1) group) f) u) fails) ∙ before

moved : (r b o : Bool) → (r || (b || o)) ≡ ((b || r) || o)
moved r b o = grind arith

-- the users of the members so far are in a set
pub put_go : (f : ℕ → Option ℕ) (group : List Bool) (from s n u : ℕ) (old new left : Bool) → length group ≡ STEP_LIMIT → IsNextStep group from s → n ≡ s
    → new ≡ (is_among (user_onto (f s) []) u || old) → (is_among (users_from from (drop from group) f) u || old) ≡ left
    → (is_among (users_from (n + 1) (drop (n + 1) group) f) u || new) ≡ left
put_go f group from s n u old new left len next same now before = grind (arith, moved, among_next)

-- none of the members may pass: a member who does not takes nobody out
pub any_left : (p : ℕ → Bool) (group : List Bool) (from x n : ℕ) (s s' left : Bool) → length group ≡ STEP_LIMIT → IsNextStep group from x → n ≡ x
    → s' ≡ (s && not (p x)) → (s && not (any_from from (drop from group) p)) ≡ left → (s' && not (any_from (n + 1) (drop (n + 1) group) p)) ≡ left
any_left p group from x n s s' left len next same now before = grind (arith, one_less, any_next)

whole : (s : Bool) → s ≡ (s && not false)
whole s = grind arith

pub any_left_end : (p : ℕ → Bool) (group : List Bool) (from : ℕ) (s left : Bool) → length group ≡ STEP_LIMIT → from ≤ STEP_LIMIT
    → ((t : ℕ) → from ≤ t → is_member group t ≡ false) → (s && not (any_from from (drop from group) p)) ≡ left → s ≡ left
any_left_end p group from s left len below none before = grind (arith, whole, any_end)

-- some member may not pass: those whom one lets stay are put together
pub all_left : (p : ℕ → Bool) (group : List Bool) (from x n : ℕ) (k k' s left : Bool) → length group ≡ STEP_LIMIT → IsNextStep group from x → n ≡ x
    → k' ≡ (k || (s && not (p x))) → (k || (s && not (all_from from (drop from group) p))) ≡ left →
    (k' || (s && not (all_from (n + 1) (drop (n + 1) group) p))) ≡ left
all_left p group from x n k k' s left len next same now before = grind (arith, one_more, all_next)

nobody : (k s : Bool) → k ≡ (k || (s && not true))
nobody k s = grind arith

pub all_left_end : (p : ℕ → Bool) (group : List Bool) (from : ℕ) (k s left : Bool) → length group ≡ STEP_LIMIT → from ≤ STEP_LIMIT
    → ((t : ℕ) → from ≤ t → is_member group t ≡ false) → (k || (s && not (all_from from (drop from group) p))) ≡ left → k ≡ left
all_left_end p group from k s left len below none before = grind (arith, nobody, all_end)

pub ruleset any_walk = (any_end, any_go, any_stop)

pub ruleset all_walk = (all_end, all_go, all_stop)

pub ruleset members_walk = (free_end, users_end)
