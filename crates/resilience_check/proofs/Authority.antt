-- What is valid with some users and what without them.
use Rattle.std.proofs.Common.{◌≡◌, refl, sym, ap, ◌∙◌, subst, ℕ, zero, suc, ◌<◌, Bool, true, false, not, ◌&&◌, ◌||◌, List, [], ◌∷◌, length}
use Rattle.std.proofs.Common.{inl, inr}
use Rattle.std.proofs.lemmas.Bool.{false≢true}
use Rattle.std.proofs.lemmas.List.Elements.{All-head, All-tail}
use Rattle.std.specs.FinSet as set
use Rattle.basics.specs.Laws.Pairs.{Pairs}
use Rattle.basics.specs.PairLaws.{pair_cmp-IsAntisymmetric}
use Rattle.basics.proofs.Booleans.{differ, not_true, not_yes, or_cases}
use Rattle.constraint_forms.specs.Assign.{is_member, planned, no_steps, no_users}
use Rattle.policy_book.specs.Laws.Shapes.{PolicyShape}
use Rattle.policy_book.specs.Policies.{any_below, flow_at, is_authorised, problem_of}
use Rattle.policy_book.specs.Laws.Plans.{IsValidPlan}
use Rattle.policy_book.specs.Laws.Twins.{is_one_of}
use Rattle.certificate_check.proofs.Below.{all_pass, each_passes}
use Rattle.resilience_check.specs.Left.{CanDoWithout, policy_without, problem_without}
use Rattle.resilience_check.specs.Covering.{AreValidPlans, is_whole, leaves_some}

-- what is kept of a set
pub contains_kept : (p : (ℕ × ℕ) → Bool) (s : Pairs) (q : ℕ × ℕ) → set.contains (set.retain s p) q ≡ (set.contains s q && p q)
contains_kept p s q = set.contains-retain s p q (λ x e. ap p (sym (pair_cmp-IsAntisymmetric q x e)))

any_same : (n : ℕ) (t u : ℕ → Bool) → ((k : ℕ) → t k ≡ u k) → any_below n t ≡ any_below n u
any_same zero t u same = refl
any_same (suc n) t u same = ap (λ b. b || t n) (any_same n t u same) ∙ ap (λ b. any_below n u || b) (same n)

any_none : (n : ℕ) (t : ℕ → Bool) → ((k : ℕ) → t k ≡ false) → any_below n t ≡ false
any_none zero t none = refl
any_none (suc n) t none = ap (λ b. b || t n) (any_none n t none) ∙ none n

and_yes : (a : Bool) → (a && true) ≡ a
and_yes true = refl
and_yes false = refl

and_no : (a b : Bool) → ((a && false) && b) ≡ false
and_no true b = refl
and_no false b = refl

-- a user who is not absent is authorised as before
pub stays_authorised : (p : PolicyShape) (f : ℕ) (absent : List ℕ) (s u : ℕ) → is_one_of absent u ≡ false
    → is_authorised (policy_without p absent) f s u ≡ is_authorised p f s u
stays_authorised p f absent s u here = any_same (length p.roster.roles) _ _ (λ r.
    let kept = contains_kept (λ q. not (is_one_of absent q.0)) p.roster.members (u, r)
    ∙ ap (λ b. set.contains p.roster.members (u, r) && not b) here ∙ and_yes _ in
    ap (λ b. b && set.contains (flow_at p f).flow.permits (r, s)) kept)

-- an absent one is not
pub absent_is_not : (p : PolicyShape) (f : ℕ) (absent : List ℕ) (s u : ℕ) → is_one_of absent u ≡ true
    → is_authorised (policy_without p absent) f s u ≡ false
absent_is_not p f absent s u gone = any_none (length p.roster.roles) _ (λ r.
    let kept = contains_kept (λ q. not (is_one_of absent q.0)) p.roster.members (u, r)
    ∙ ap (λ b. set.contains p.roster.members (u, r) && not b) gone in
    ap (λ b. b && set.contains (flow_at p f).flow.permits (r, s)) kept ∙ and_no (set.contains p.roster.members (u, r)) _)

present : (p : PolicyShape) (f : ℕ) (absent : List ℕ) (s u : ℕ) → is_authorised (policy_without p absent) f s u ≡ true → is_one_of absent u ≡ false
present p f absent s u may = not_true (is_one_of absent u) (λ gone. differ (is_authorised (policy_without p absent) f s u) may
    (absent_is_not p f absent s u gone))

-- a valid plan without some users is valid with them
pub valid_with : (p : PolicyShape) (f : ℕ) (absent plan : List ℕ) → IsValidPlan (problem_without p f absent) no_users no_steps plan
    → IsValidPlan (problem_of p f) no_users no_steps plan
valid_with p f absent plan valid = record {
  whole = valid.whole;
  known = valid.known;
  keeps = valid.keeps;
  allowed = λ s below open_.
      let may = valid.allowed s below open_ in
      sym (stays_authorised p f absent s (planned plan s) (present p f absent s (planned plan s) may)) ∙ may;
  obeyed = valid.obeyed;
}

-- and has none of them
pub valid_is_whole : (p : PolicyShape) (f : ℕ) (absent plan : List ℕ) → ((s : ℕ) → is_member no_steps s ≡ false)
    → IsValidPlan (problem_without p f absent) no_users no_steps plan → is_whole absent plan ≡ true
valid_is_whole p f absent plan none valid = all_pass (length plan) (λ s. not (is_one_of absent (planned plan s))) (λ s below.
    let within : s < length (flow_at p f).flow.steps = subst (λ n. s < n) valid.whole below in
    ap not (present p f absent s (planned plan s) (valid.allowed s within (none s))))

-- a valid plan that has none of them is valid without them
pub valid_without : (p : PolicyShape) (f : ℕ) (absent plan : List ℕ) → is_whole absent plan ≡ true
    → IsValidPlan (problem_of p f) no_users no_steps plan → IsValidPlan (problem_without p f absent) no_users no_steps plan
valid_without p f absent plan whole valid = record {
  whole = valid.whole;
  known = valid.known;
  keeps = valid.keeps;
  allowed = λ s below open_.
      let within : s < length plan = subst (λ n. s < n) (sym valid.whole) below in
      let here = not_yes (is_one_of absent (planned plan s)) (each_passes (length plan)
      (λ t. not (is_one_of absent (planned plan t))) whole s within) in
      stays_authorised p f absent s (planned plan s) here ∙ valid.allowed s below open_;
  obeyed = valid.obeyed;
}

-- where a family of valid plans has a whole one, the workflow can do without the users
pub can_do_by : (p : PolicyShape) (f : ℕ) (absent : List ℕ) (plans : List (List ℕ)) → AreValidPlans (problem_of p f) plans
    → leaves_some plans absent ≡ true → CanDoWithout p f absent
can_do_by p f absent [] valid h = absurd (false≢true h)
can_do_by p f absent (plan ∷ plans) valid h = elim (or_cases (is_whole absent plan) (leaves_some plans absent) h) [
  | inl here ↦ (plan, valid_without p f absent plan here (All-head (IsValidPlan (problem_of p f) no_users no_steps) plan plans valid))
  | inr later ↦ can_do_by p f absent plans (All-tail (IsValidPlan (problem_of p f) no_users no_steps) plan plans valid) later
]
