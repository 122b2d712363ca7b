-- A crowd leaves no plan: different users for its steps are more than there are.
use Rattle.std.proofs.Common.{◌≡◌, ◌≢◌, refl, sym, ap, ◌∙◌, subst, ℕ, zero, suc, ◌+◌, ◌<◌, ◌≤◌, Bool, true, false, not, ◌&&◌, ◌||◌, ◌==◌, List, [], ◌∷◌, ◌++◌}
use Rattle.std.proofs.Common.{length, take, drop, ◌-◌, get_or, Option, None, Some, slice_get, if◌then◌else◌, ◌⊎◌, inl, inr, eqb, arith}
use Rattle.std.proofs.lemmas.List.{drop_more, length-drop, take_all}
use Rattle.std.proofs.lemmas.Bool.{false≢true, eqb-true}
use Rattle.std.proofs.lemmas.Bool.Decides.{eqb_tells}
use Rattle.basics.proofs.Booleans.{and_both, eq_same, not_true, or_cases, or_left, or_right}
use Rattle.certificate_check.proofs.Assigned.{same_some}
use Rattle.certificate_check.proofs.Below.{each_passes}
use Rattle.constraint_forms.specs.declared.rule.Rule.{Rule}
use Rattle.constraint_forms.specs.declared.rule.Rule.TheVariants.{Pair, AllOf, AllTo}
use Rattle.constraint_forms.specs.Assign.{user_at, planned, is_member}
use Rattle.constraint_forms.specs.Rules.{all_from, any_read, is_satisfied, relation_of, said_of}
use Rattle.policy_book.specs.Laws.Plans.{AreAssigned, IsValidPlan, Problem}
use Rattle.policy_book.specs.Policies.{any_below}
use Rattle.policy_book.specs.Laws.Twins.{is_one_of}
use Rattle.rule_core.specs.Search.{without}
use Rattle.rule_core.specs.Crowds.{CrowdsBlock, all_parted, are_parted, is_open_to, is_parted_from, is_parting, is_strict, may_take_one, relates, those_below}
use Rattle.rule_core.proofs.Listing.{one_here, without_keeps}

-- ---- counting

length-without_most : (k : ℕ) (ks : List ℕ) → length (without k ks) ≤ length ks
length-without_most k [] = omega arith
length-without_most k (j ∷ js) = at (j == k) (length-without_most k js)
  where
    at : (b : Bool) → length (without k js) ≤ length js → length (if b then without k js else j ∷ without k js) ≤ suc (length js)
    at true less = omega (arith, less)
    at false less = omega (arith, less)

length-without : (k : ℕ) (ks : List ℕ) → is_one_of ks k ≡ true → length (without k ks) + 1 ≤ length ks
length-without k [] one = absurd (false≢true one)
length-without k (j ∷ js) one = at (j == k) one (length-without k js) (length-without_most k js)
  where
    at : (b : Bool) → (b || is_one_of js k) ≡ true → (is_one_of js k ≡ true → length (without k js) + 1 ≤ length js) → length (without k js) ≤ length js →
        length (if b then without k js else j ∷ without k js) + 1 ≤ suc (length js)
    at true one later less = omega (arith, less)
    at false one later less = let fewer = later one in omega (arith, fewer)

-- a step's user differs from those of others
abbrev DiffersFrom : (ℕ → ℕ) → ℕ → List ℕ → Type 0
DiffersFrom g s [] = Unit {0}
DiffersFrom g s (t ∷ ts) = (g t ≢ g s) × DiffersFrom g s ts

abbrev AllDiffer : (ℕ → ℕ) → List ℕ → Type 0
AllDiffer g [] = Unit {0}
AllDiffer g (s ∷ ss) = DiffersFrom g s ss × AllDiffer g ss

differs_at : (g : ℕ → ℕ) (s t : ℕ) (ss : List ℕ) → DiffersFrom g s ss → is_one_of ss t ≡ true → g t ≢ g s
differs_at g s t [] other one = absurd (false≢true one)
differs_at g s t (r ∷ rs) other one = elim (or_cases (r == t) (is_one_of rs t) one) [
  | inl here ↦ subst (λ x. g x ≢ g s) (eqb-true r t here) other.0
  | inr later ↦ differs_at g s t rs other.1 later
]

-- different users of steps are no more than the users there are
pigeons : (g : ℕ → ℕ) (ss us : List ℕ) → AllDiffer g ss → ((s : ℕ) → is_one_of ss s ≡ true → is_one_of us (g s) ≡ true) → length ss ≤ length us
pigeons g [] us other within = omega arith
pigeons g (s ∷ ss) us other within =
    let here = within s (one_here s ss) in
    let fewer = length-without (g s) us here in
    let rest = pigeons g ss (without (g s) us) other.1
    (λ t one. without_keeps (g s) us (g t) (within t (or_right (s == t) (is_one_of ss t) one)) (differs_at g s t ss other.0 one)) in
    omega (arith, fewer, rest)

-- ---- parted steps

any_one : (n : ℕ) (test : ℕ → Bool) → any_below n test ≡ true → (k : ℕ) × (test k ≡ true)
any_one zero test h = absurd (false≢true h)
any_one (suc n) test h = elim (or_cases (any_below n test) (test n) h) [
  | inl earlier ↦ any_one n test earlier
  | inr here ↦ (n, here)
]

member_related : (q : ℕ → Bool) (k : ℕ) (group : List Bool) (s : ℕ) → all_from k group q ≡ true → is_member group s ≡ true → q (k + s) ≡ true
member_related q k [] s all member = absurd (false≢true member)
member_related q k (b ∷ bs) zero all member =
    let both = and_both (not b || q k) (all_from (k + 1) bs q) all in
    let here : k + 0 ≡ k = omega arith in
    ap q here ∙ at b member both.0
  where
    at : (c : Bool) → c ≡ true → (not c || q k) ≡ true → q k ≡ true
    at true is h = h
    at false is h = absurd (false≢true is)
member_related q k (b ∷ bs) (suc s) all member =
    let both = and_both (not b || q k) (all_from (k + 1) bs q) all in
    let next : (k + 1) + s ≡ k + suc s = omega arith in
    sym (ap q next) ∙ member_related q (k + 1) bs s both.1 member

-- a rule reads a relation, and by it two users are related in one of the two directions
abbrev IsRelatedBy : Problem → Rule → ℕ → ℕ → Type 0
IsRelatedBy p r u v = (rho : ℕ) × (relation_of r ≡ Some rho) × ((p.related rho u v ≡ true) ⊎ (p.related rho v u ≡ true))

turned_by : (p : Problem) (r : Rule) (u v : ℕ) → IsRelatedBy p r v u → IsRelatedBy p r u v
turned_by p r u v by = (
  by.0,
  by.1,
  elim by.2 [
    | inl ahead ↦ inr ahead
    | inr back ↦ inl back
  ],
)

-- a rule that a plan satisfies relates the users of its steps
related_by : (p : Problem) (r : Rule) (g : ℕ → ℕ) (s t : ℕ) → is_satisfied p.related r g ≡ true → relates r s t ≡ true → IsRelatedBy p r (g s) (g t)
related_by p (Pair rho first second) g s t holds are =
    let both = and_both (s == first) (t == second) are in (
      rho,
      refl,
      inl (ap (λ x. p.related rho (g x) (g t)) (eqb-true s first both.0) ∙ ap (λ x. p.related rho (g first) (g x)) (eqb-true t second both.1) ∙ holds),
    )
related_by p (AllOf rho group step) g s t holds are =
    let both = and_both (is_member group s) (t == step) are in
    let same : 0 + s ≡ s = omega arith in (
      rho,
      refl,
      inl (ap (λ x. p.related rho (g s) (g x)) (eqb-true t step both.1) ∙ sym (ap (λ x. p.related rho (g x) (g step)) same) ∙
          member_related (λ x. p.related rho (g x) (g step)) 0 group s holds both.0),
    )
related_by p (AllTo rho step group) g s t holds are =
    let both = and_both (is_member group s) (t == step) are in
    let same : 0 + s ≡ s = omega arith in (
      rho,
      refl,
      inr (ap (λ x. p.related rho (g x) (g s)) (eqb-true t step both.1) ∙ sym (ap (λ x. p.related rho (g step) (g x)) same) ∙
          member_related (λ x. p.related rho (g step) (g x)) 0 group s holds both.0),
    )
related_by p x g s t holds are = absurd (false≢true are)

nobody_to_self : (p : Problem) (rho u : ℕ) → is_strict p rho ≡ true → u < p.users → p.related rho u u ≡ true → ⊥
nobody_to_self p rho u strict known holds = false≢true (sym (ap not holds) ∙ each_passes p.users (λ v. not (p.related rho v v)) strict u known)

-- users whom a rule relates by a relation that nobody has to themselves are two
none_alone : (p : Problem) (r : Rule) (u v : ℕ) → any_read r (is_strict p) ≡ true → u < p.users → v ≡ u → IsRelatedBy p r u v → ⊥
none_alone p r u v strict known same by =
    nobody_to_self p by.0 u (sym (ap (said_of false (is_strict p)) by.1) ∙ strict) known
    (elim by.2 [
      | inl ahead ↦ sym (ap (λ x. p.related by.0 u x) same) ∙ ahead
      | inr back ↦ sym (ap (λ x. p.related by.0 x u) same) ∙ back
    ])

parted_differ : (p : Problem) (assigned : List (Option ℕ)) (finished : List Bool) (plan : List ℕ) (s t : ℕ) → IsValidPlan p assigned finished plan →
    s < p.steps → are_parted p s t ≡ true → planned plan t ≢ planned plan s
parted_differ p assigned finished plan s t valid below parted same =
    let found = any_one (length p.rules) (λ k. is_parting p s t (slice_get p.rules k)) parted in
    at found.0 (slice_get p.rules found.0) refl found.1
  where
    at : (k : ℕ) (o : Option Rule) → slice_get p.rules k ≡ o → is_parting p s t o ≡ true → ⊥
    at k None is h = false≢true h
    at k (Some r) is h =
        let both = and_both (relates r s t || relates r t s) (any_read r (is_strict p)) h in
        let holds = valid.obeyed k r is in
        none_alone p r (planned plan s) (planned plan t) both.1 (valid.known s below) same
        (elim (or_cases (relates r s t) (relates r t s) both.0) [
          | inl ahead ↦ related_by p r (planned plan) s t holds ahead
          | inr back ↦ turned_by p r (planned plan s) (planned plan t) (related_by p r (planned plan) t s holds back)
        ])

differ_from : (p : Problem) (assigned : List (Option ℕ)) (finished : List Bool) (plan : List ℕ) (s : ℕ) (ts : List ℕ) →
    IsValidPlan p assigned finished plan → s < p.steps → is_parted_from p s ts ≡ true → DiffersFrom (planned plan) s ts
differ_from p assigned finished plan s [] valid below parted = tt
differ_from p assigned finished plan s (t ∷ ts) valid below parted =
    let both = and_both (are_parted p s t) (is_parted_from p s ts) parted in
    (parted_differ p assigned finished plan s t valid below both.0, differ_from p assigned finished plan s ts valid below both.1)

all_differ : (p : Problem) (assigned : List (Option ℕ)) (finished : List Bool) (plan ss : List ℕ) → IsValidPlan p assigned finished plan →
    ((s : ℕ) → is_one_of ss s ≡ true → s < p.steps) → all_parted p ss ≡ true → AllDiffer (planned plan) ss
all_differ p assigned finished plan [] valid known parted = tt
all_differ p assigned finished plan (s ∷ ss) valid known parted =
    let both = and_both (is_parted_from p s ss) (all_parted p ss) parted in (
      differ_from p assigned finished plan s ss valid (known s (one_here s ss)) both.0,
      all_differ p assigned finished plan ss valid (λ t one. known t (or_right (s == t) (is_one_of ss t) one)) both.1,
    )

-- ---- who takes them

those_have : (n : ℕ) (test : ℕ → Bool) (u : ℕ) → u < n → test u ≡ true → is_one_of (those_below n test) u ≡ true
those_have zero test u below passes = absurd (omega (arith, below))
those_have (suc n) test u below passes = at (test n) refl (eqb_tells u n) (λ apart. those_have n test u (omega (arith, below, apart)) passes)
  where
    at : (b : Bool) → test n ≡ b → ((eqb u n ≡ true) × (u ≡ n)) ⊎ ((eqb u n ≡ false) × (u ≢ n)) → (u ≢ n → is_one_of (those_below n test) u ≡ true) →
        is_one_of (if b then n ∷ those_below n test else those_below n test) u ≡ true
    at true is (inl same) later = subst (λ x. is_one_of (x ∷ those_below n test) u ≡ true) same.1 (one_here u (those_below n test))
    at true is (inr apart) later = or_right (n == u) (is_one_of (those_below n test) u) (later apart.1)
    at false is (inl same) later = absurd (false≢true (sym is ∙ sym (ap test same.1) ∙ passes))
    at false is (inr apart) later = later apart.1

takes_one : (p : Problem) (assigned : List (Option ℕ)) (ss : List ℕ) (s u : ℕ) → is_one_of ss s ≡ true → is_open_to p s u (user_at assigned s) ≡ true →
    may_take_one p assigned ss u ≡ true
takes_one p assigned [] s u one opens = absurd (false≢true one)
takes_one p assigned (r ∷ rs) s u one opens = elim (or_cases (r == s) (is_one_of rs s) one) [
  | inl here ↦ or_left (is_open_to p r u (user_at assigned r)) (may_take_one p assigned rs u)
      (ap (λ x. is_open_to p x u (user_at assigned x)) (eqb-true r s here) ∙ opens)
  | inr later ↦ or_right (is_open_to p r u (user_at assigned r)) (may_take_one p assigned rs u) (takes_one p assigned rs s u later opens)
]

planned_open : (p : Problem) (assigned : List (Option ℕ)) (finished : List Bool) (plan : List ℕ) (s : ℕ) → AreAssigned finished assigned →
    IsValidPlan p assigned finished plan → s < p.steps → is_open_to p s (planned plan s) (user_at assigned s) ≡ true
planned_open p assigned finished plan s all valid below = at (user_at assigned s) refl
  where
    at : (o : Option ℕ) → user_at assigned s ≡ o → is_open_to p s (planned plan s) o ≡ true
    at None is = valid.allowed s below (not_true (is_member finished s) (λ done. let given = all s done in absurd (false≢true (ap is_none (sym is ∙ given.1)))))
      where
        is_none : Option ℕ → Bool
        is_none None = false
        is_none (Some v) = true
    at (Some v) is = ap (λ u. v == u) (same_some (planned plan s) v (valid.keeps s v is)) ∙ eq_same v

pub crowds_block : CrowdsBlock
crowds_block p assigned finished steps all crowd some =
    let plan = some.0 in
    let valid = some.1 in
    let few = crowd.few in
    let enough = pigeons (planned plan) steps (those_below p.users (may_take_one p assigned steps))
    (all_differ p assigned finished plan steps valid crowd.known crowd.parted)
    (λ s one. those_have p.users (may_take_one p assigned steps) (planned plan s) (valid.known s (crowd.known s one))
    (takes_one p assigned steps s (planned plan s) one (planned_open p assigned finished plan s all valid (crowd.known s one)))) in
    absurd (omega (arith, few, enough))

-- ---- walks

pub one_at : (us : List ℕ) (u i : ℕ) → i < length us → u ≡ get_or us i u → is_one_of us u ≡ true
one_at [] u i below is = absurd (omega (arith, below))
one_at (v ∷ vs) u zero below is = or_left (v == u) (is_one_of vs u) (subst (λ x. (x == u) ≡ true) is (eq_same u))
one_at (v ∷ vs) u (suc i) below is = or_right (v == u) (is_one_of vs u) (one_at vs u i (omega (arith, below)) is)

pub none_more : (n : ℕ) (test : ℕ → Bool) → any_below n test ≡ false → test n ≡ false → any_below (n + 1) test ≡ false
none_more n test none fails = let more : n + 1 ≡ suc n = omega arith in ap (λ m. any_below m test) more ∙ ap (λ b. b || test n) none ∙ fails

whole_rest : (xs : List ℕ) (n : ℕ) → take (length xs - n) (drop n xs) ≡ drop n xs
whole_rest xs n = ap (λ m. take m (drop n xs)) (sym (length-drop n xs)) ∙ take_all (length (drop n xs)) (drop n xs) (omega arith)

-- each two of the steps from a place on are parted: the one there from those behind it, and each two of these
pub parted_at : (p : Problem) (ss : List ℕ) (i s : ℕ) (parts : Bool) → i < length ss → s ≡ get_or ss i s →
    parts ≡ is_parted_from p s (take (length ss - (i + 1)) (drop (i + 1) ss)) → (parts && all_parted p (drop (i + 1) ss)) ≡ all_parted p (drop i ss)
parted_at p ss i s parts below is parted =
    let rest = drop (i + 1) ss in
    ap (λ b. b && all_parted p rest) (parted ∙ ap (is_parted_from p s) (whole_rest ss (i + 1)))
    ∙ sym (ap (all_parted p) (drop_more ss i s below) ∙ ap (λ x. is_parted_from p x rest && all_parted p rest) (sym is))

-- a number that is put behind others
pub one_pushed : (xs : List ℕ) (x u : ℕ) → is_one_of (xs ++ x ∷ []) u ≡ true → (is_one_of xs u ≡ true) ⊎ (x ≡ u)
one_pushed [] x u one = elim (or_cases (x == u) false one) [
  | inl here ↦ inr (eqb-true x u here)
  | inr none ↦ absurd (false≢true none)
]
one_pushed (y ∷ ys) x u one = elim (or_cases (y == u) (is_one_of (ys ++ x ∷ []) u) one) [
  | inl here ↦ inl (or_left (y == u) (is_one_of ys u) here)
  | inr later ↦ behind (one_pushed ys x u later)
]
  where
    behind : (is_one_of ys u ≡ true) ⊎ (x ≡ u) → (is_one_of (y ∷ ys) u ≡ true) ⊎ (x ≡ u)
    behind (inl there) = inl (or_right (y == u) (is_one_of ys u) there)
    behind (inr same) = inr same

pub all_pushed : (n : ℕ) (xs : List ℕ) (x : ℕ) → x < n → ((t : ℕ) → is_one_of xs t ≡ true → t < n) → (t : ℕ) → is_one_of (xs ++ x ∷ []) t ≡ true → t < n
all_pushed n xs x below known t one = elim (one_pushed xs x t one) [
  | inl there ↦ known t there
  | inr same ↦ subst (λ y. y < n) same below
]
