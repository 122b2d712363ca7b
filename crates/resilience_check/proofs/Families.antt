-- Families that grow by a valid plan, and what was tried.
use Rattle.std.proofs.Common.{◌≡◌, refl, sym, ap, ◌∙◌, subst, ℕ, ◌+◌, ◌<◌, ◌≤◌, true, ◌&&◌, ◌==◌, nat_lt, List, [], ◌∷◌, ◌++◌, length}
use Rattle.std.proofs.Common.{append_assoc, arith, inl, inr}
use Rattle.std.proofs.lemmas.Bool.{false≢true}
use Rattle.std.proofs.lemmas.List.Elements.{All-push}
use Rattle.basics.proofs.Booleans.{and_both, differ, eq_back, lt_back, or_cases, or_left, or_right}
use Rattle.constraint_forms.specs.Assign.{is_member, no_steps, no_users}
use Rattle.constraint_forms.proofs.Members.{none_member}
use Rattle.refutation_tree.specs.declared.tree.Tree.{Tree}
use Rattle.policy_book.specs.Laws.Shapes.{PolicyShape}
use Rattle.policy_book.specs.Policies.{problem_of}
use Rattle.policy_book.specs.Laws.Plans.{IsValidPlan, IsWellFormed}
use Rattle.refutation_tree.specs.Laws.Views.{shape_of}
use Rattle.certificate_check.proofs.Refuted.{refutes_soundly}
use Rattle.resilience_check.specs.Left.{AreUsersInOrder, IsLeastAbsence, comes_before, is_less, problem_without}
use Rattle.resilience_check.specs.Covering.{AreValidPlans, is_whole, leaves_some}
use Rattle.resilience_check.specs.Lists.{Withstands}
use Rattle.resilience_check.specs.Searches.{Grows, HasFoundLeast, FamilyGrows, HasNone}
use Rattle.resilience_check.proofs.Authority.{can_do_by, valid_is_whole, valid_with}
use Rattle.resilience_check.proofs.Coverage.{ascends_from}
use Rattle.resilience_check.proofs.Leaving.{leaves_alike, leaves_append}
use Rattle.resilience_check.proofs.Ones.{one_exchanged}

pub stays_grown : (p : PolicyShape) (f : ℕ) (plans : List (List ℕ)) → AreValidPlans (problem_of p f) plans → FamilyGrows p f plans plans
stays_grown p f plans valid = record { valid = valid; grows = λ absent h. h }

pub grown_on : (p : PolicyShape) (f : ℕ) (a b c : List (List ℕ)) → FamilyGrows p f a b → FamilyGrows p f b c → FamilyGrows p f a c
grown_on p f a b c first second = record { valid = second.valid; grows = λ absent h. second.grows absent (first.grows absent h) }

-- a valid plan without some users is put into the family
pub grown_by : (p : PolicyShape) (f : ℕ) (absent : List ℕ) (before after : List (List ℕ)) (plan : List ℕ) → AreValidPlans (problem_of p f) before
    → after ≡ before ++ plan ∷ [] →
    IsValidPlan (problem_without p f absent) no_users no_steps plan → FamilyGrows p f before after × (leaves_some after absent ≡ true)
grown_by p f absent before after plan family is valid = (
  record {
    valid = subst (λ (plans : List (List ℕ)). AreValidPlans (problem_of p f) plans) (sym is)
        (All-push (IsValidPlan (problem_of p f) no_users no_steps) before plan family (valid_with p f absent plan valid));
    grows = λ other h. ap (λ plans. leaves_some plans other) is ∙ leaves_append before plan other
        ∙ or_left (leaves_some before other) (is_whole other plan) h;
  },
  ap (λ plans. leaves_some plans absent) is ∙ leaves_append before plan absent
      ∙ or_right (leaves_some before absent) (is_whole absent plan) (valid_is_whole p f absent plan none_member valid),
)

-- what cannot be broken has a whole plan for each absence
pub none_by : (n : ℕ) (absent : List ℕ) (k left : ℕ) (plans : List (List ℕ)) → Withstands plans absent k left → HasNone n absent k left plans absent
none_by n absent k left plans withstands = record {
  same = refl;
  each = λ other ascending count. leaves_alike plans (absent ++ other) (other ++ absent) (one_exchanged absent other)
      ∙ withstands other (ascends_from k n other ascending) (omega (arith, count));
}

-- the first user of an absence that was found, with what was tried before
pub found_from : (p : PolicyShape) (f : ℕ) (absent now : List ℕ) (k left less u : ℕ) (before plans : List (List ℕ)) (tree : Tree) → k ≤ u
    → u < length p.roster.users → less + 1 ≡ left →
    ((v : ℕ) → k ≤ v → v < u → (other : List ℕ) → AreUsersInOrder (v + 1) (length p.roster.users) other → length other + 1 ≡ left
    → leaves_some before (absent ++ (v ∷ other)) ≡ true) →
    Grows before plans → HasFoundLeast p f (absent ++ u ∷ []) (u + 1) less plans now tree → HasFoundLeast p f absent k left plans now tree
found_from p f absent now k left less u before plans tree low known one each grows found = record {
  more = u ∷ found.more;
  is = found.is ∙ append_assoc absent (u ∷ []) found.more;
  ascending = (low, known, found.ascending);
  count = let count = found.count in omega (arith, count, one);
  refuted = found.refuted;
  least = least;
}
  where
    least : (other : List ℕ) → AreUsersInOrder k (length p.roster.users) other → length other ≡ left → is_less other (u ∷ found.more) ≡ true
        → leaves_some plans (absent ++ other) ≡ true
    least [] ascending count less_than = absurd (false≢true less_than)
    least (v ∷ other) ascending count less_than = elim (or_cases (nat_lt v u) ((v == u) && is_less other found.more) less_than) [
      | inl before_u ↦ grows (absent ++ (v ∷ other)) (each v ascending.0 (lt_back v u before_u) other ascending.2 (omega (arith, count)))
      | inr here ↦
          let both = and_both (v == u) (is_less other found.more) here in
          let same = eq_back v u both.0 in
          subst (λ x. leaves_some plans (absent ++ (x ∷ other)) ≡ true) (sym same)
          (subst (λ us. leaves_some plans us ≡ true) (append_assoc absent (u ∷ []) other)
          (found.least other (subst (λ x. AreUsersInOrder (x + 1) (length p.roster.users) other) same ascending.2) (omega (arith, count, one)) both.1))
    ]

-- each first user was tried
pub none_from : (n : ℕ) (absent now : List ℕ) (k left end_ : ℕ) (plans : List (List ℕ)) → now ≡ absent → (left ≡ 0 → ⊥) → n ≤ end_ →
    ((v : ℕ) → k ≤ v → v < end_ → (other : List ℕ) → AreUsersInOrder (v + 1) n other → length other + 1 ≡ left
    → leaves_some plans (absent ++ (v ∷ other)) ≡ true) → HasNone n absent k left plans now
none_from n absent now k left end_ plans same some all each = record { same = same; each = tried }
  where
    tried : (other : List ℕ) → AreUsersInOrder k n other → length other ≡ left → leaves_some plans (absent ++ other) ≡ true
    tried [] ascending count = absurd (some (sym count))
    tried (v ∷ other) ascending count = each v ascending.0 (let below = ascending.1 in omega (arith, below, all)) other ascending.2
        (omega (arith, count))

-- an absence that was found after all shorter ones and all lesser ones of its length is the least
pub least_by : (p : PolicyShape) (f t size : ℕ) (before plans : List (List ℕ)) (now : List ℕ) (tree : Tree) → size ≤ t
    → IsWellFormed (problem_of p f) →
    ((other : List ℕ) → AreUsersInOrder 0 (length p.roster.users) other → length other < size → leaves_some before other ≡ true) →
    FamilyGrows p f before plans → HasFoundLeast p f [] 0 size plans now tree → IsLeastAbsence p f t now
least_by p f t size before plans now tree few formed shorter grown found = record {
  few = let count = found.count in let same = ap length found.is in omega (arith, count, same, few);
  ascending = subst (λ us. AreUsersInOrder 0 (length p.roster.users) us) (sym found.is) found.ascending;
  breaks = λ can. refutes_soundly (problem_without p f now) no_users no_steps (shape_of tree) formed
      (λ s one. absurd (differ (is_member no_steps s) one (none_member s))) found.refuted can;
  least = λ other ascending comes. can_do_by p f other plans grown.valid (left other ascending comes);
}
  where
    long : length now ≡ size
    long = ap length found.is ∙ found.count

    left : (other : List ℕ) → AreUsersInOrder 0 (length p.roster.users) other → comes_before other now ≡ true → leaves_some plans other ≡ true
    left other ascending comes = elim (or_cases (nat_lt (length other) (length now)) ((length other == length now) && is_less other now) comes) [
      | inl short ↦ grown.grows other (shorter other ascending (let less = lt_back (length other) (length now) short in omega (arith, less, long)))
      | inr same ↦
          let both = and_both (length other == length now) (is_less other now) same in
          found.least other ascending (eq_back (length other) (length now) both.0 ∙ long) (subst (λ us. is_less other us ≡ true) found.is both.1)
    ]
