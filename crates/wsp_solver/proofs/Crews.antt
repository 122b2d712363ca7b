-- What a search knows of each user.
use Rattle.std.proofs.Common.{◌≡◌, ◌≢◌, refl, sym, ap, ◌∙◌, ℕ, zero, suc, ◌<◌, ◌≤◌, Bool, true, false, not, ◌&&◌, ◌||◌, ◌==◌, nat_lt, List, [], ◌∷◌}
use Rattle.std.proofs.Common.{length, Option, None, Some, slice_get, slice_set, if◌then◌else◌, subst, ◌⊎◌, inl, inr, arith}
use Rattle.std.proofs.lemmas.Bool.{false≢true}
use Rattle.std.proofs.lemmas.Bool.Decides.{leb_tells}
use Rattle.std.proofs.lemmas.List.{length-replicate}
use Rattle.std.proofs.lemmas.Option.{slice_get_within}
use Rattle.basics.proofs.Booleans.{and-false, and_both, eq_back, eq_is, lt_back, lt_no, lt_yes, not_true, or-false, same_by}
use Rattle.wf_names.specs.declared.limits.TheConstants.{STEP_LIMIT}
use Rattle.constraint_forms.specs.declared.rule.Rule.{Rule}
use Rattle.constraint_forms.specs.Flags.{word_of}
use Rattle.constraint_forms.specs.Assign.{is_member, no_steps, user_at}
use Rattle.constraint_forms.specs.Rules.{any_read}
use Rattle.constraint_forms.proofs.Reading.{some_read}
use Rattle.constraint_forms.proofs.Members.{none_member}
use Rattle.policy_book.specs.Laws.Plans.{Problem}
use Rattle.policy_book.specs.Laws.Twins.{agree, are_related_alike, are_twins, has_no_step, has_twin, is_alike_to, is_rule_alike, may_do_the_same}
use Rattle.policy_book.specs.Laws.Twins.{treats_alike}
use Rattle.certificate_check.proofs.Below.{all_pass, one_fails, same_agree}
use Rattle.certificate_check.proofs.TwinLaws.{mean_twins, twins_chain, twins_mean, twins_turned}
use Rattle.certificate_check.proofs.Assigned.{given}
use Rattle.wsp_solver.specs.Crews.{AreDutiesBelow, AreFirstTwins, IsFirstTwin, duties_below, duties_of, is_told_apart, tells_apart}
use Rattle.wsp_solver.proofs.Members.{length_set, member_added, passing_more}

-- ---- steps

duties-length : (p : Problem) (u n : ℕ) → length no_steps ≡ STEP_LIMIT → length (duties_below p u n) ≡ STEP_LIMIT
duties-length p u zero none = none
duties-length p u (suc n) none = grind (arith, length_set, (duties-length p u n none))

-- who is in a set with one more step where that is wanted
pub member_if : (set : List Bool) (n t : ℕ) (b : Bool) → n < length set →
    is_member (if b then slice_set set n true else set) t ≡ (is_member set t || (b && t == n))
member_if set n t b below = grind (arith, member_added, or-false)

duties-member : (p : Problem) (u n t : ℕ) → length no_steps ≡ STEP_LIMIT → ((s : ℕ) → is_member no_steps s ≡ false) → n ≤ STEP_LIMIT →
    is_member (duties_below p u n) t ≡ (nat_lt t n && p.authorised t u)
duties-member p u zero t long none few = none t ∙ sym (ap (λ b. b && p.authorised t u) (lt_no t 0 (omega arith)))
duties-member p u (suc n) t long none few = grind (arith, duties-length, member_if, passing_more, (duties-member p u n t long none (omega (arith, few))))

no_steps-length : length no_steps ≡ STEP_LIMIT
unfolding no_steps
no_steps-length = length-replicate STEP_LIMIT false

-- the steps of a user tell whether the user is authorised
pub duties-known : (p : Problem) (u s : ℕ) → p.steps ≤ STEP_LIMIT → s < p.steps → is_member (duties_below p u p.steps) s ≡ p.authorised s u
duties-known p u s few below = duties-member p u p.steps s no_steps-length none_member few ∙ ap (λ b. b && p.authorised s u) (lt_yes s p.steps below)

duties-same : (p : Problem) (u v n : ℕ) → ((s : ℕ) → s < n → p.authorised s u ≡ p.authorised s v) → duties_below p u n ≡ duties_below p v n
duties-same p u v zero same = refl
duties-same p u v (suc n) same = grind (arith, (duties-same p u v n (λ s below. same s (omega (arith, below)))))

-- users with different steps are no twins
pub apart_by_duties : (p : Problem) (duties : List (List Bool)) (u v : ℕ) → u < p.users → v < p.users → AreDutiesBelow p duties →
    duties_of duties u ≢ duties_of duties v → are_twins p [] u v ≡ false
apart_by_duties p duties u v u_in v_in right differ =
    not_true (are_twins p [] u v) (λ twins. differ (right u u_in ∙ duties-same p u v p.steps (twins_mean p [] u v twins).steps ∙ sym (right v v_in)))

-- sets of steps with one word are the same
pub word_one : (xs ys : List Bool) → length xs ≡ length ys → word_of xs ≡ word_of ys → xs ≡ ys
unfolding word_of
word_one [] [] long same = refl
word_one [] (y ∷ ys) long same = absurd (omega (arith, long))
word_one (x ∷ xs) [] long same = absurd (omega (arith, long))
word_one (true ∷ xs) (true ∷ ys) long same = ap (λ zs. true ∷ zs) (word_one xs ys (omega (arith, long)) (omega (arith, same)))
word_one (false ∷ xs) (false ∷ ys) long same = ap (λ zs. false ∷ zs) (word_one xs ys (omega (arith, long)) (omega (arith, same)))
word_one (true ∷ xs) (false ∷ ys) long same = absurd (omega (arith, same))
word_one (false ∷ xs) (true ∷ ys) long same = absurd (omega (arith, same))

-- ---- twins where nothing is assigned

pub busy_no_twin : (p : Problem) (a : List (Option ℕ)) (u v : ℕ) → has_no_step a u ≡ false → are_twins p a u v ≡ false
busy_no_twin p a u v busy = ap (λ b. (b && has_no_step a v) && (may_do_the_same p u v && are_related_alike p u v)) busy

turned : (p : Problem) (u v : ℕ) → are_twins p [] u v ≡ true → are_twins p [] v u ≡ true
turned p u v h = mean_twins p [] v u (twins_turned p [] u v (twins_mean p [] u v h))

pub twins_turned_same : (p : Problem) (u v : ℕ) → are_twins p [] u v ≡ are_twins p [] v u
twins_turned_same p u v = same_by (are_twins p [] u v) (are_twins p [] v u) (turned p u v) (turned p v u)

pub twins_own : (p : Problem) (u : ℕ) → are_twins p [] u u ≡ true
twins_own p u = mean_twins p [] u u (record {
  first = λ s is. none_some u is;
  second = λ s is. none_some u is;
  steps = λ s below. refl;
  rules = λ k r is rho read. record { towards = λ w below nu nv. refl; «from» = λ w below nu nv. refl; own = refl; mutually = refl };
})
  where
    none_some : (u : ℕ) → None ≡ Some u → ⊥
    none_some u e = cc

-- users with the same steps are twins exactly where each relation treats them alike
pub alike_by_duties : (p : Problem) (duties : List (List Bool)) (u v : ℕ) → u < p.users → v < p.users → p.steps ≤ STEP_LIMIT → AreDutiesBelow p duties →
    word_of (duties_of duties u) ≡ word_of (duties_of duties v) → are_twins p [] u v ≡ are_related_alike p u v
alike_by_duties p duties u v u_in v_in few right one =
    let long : (w : ℕ) → w < p.users → length (duties_of duties w) ≡ STEP_LIMIT = λ w w_in. ap length (right w w_in) ∙
    duties-length p w p.steps no_steps-length in
    let same = word_one (duties_of duties u) (duties_of duties v) (long u u_in ∙ sym (long v v_in)) one in
    ap (λ b. b && are_related_alike p u v)
    (all_pass p.steps (λ s. agree (p.authorised s u) (p.authorised s v))
    (λ s below. same_agree (p.authorised s u) (p.authorised s v)
    (sym (duties-known p u s few below) ∙ ap (λ d. is_member d s) (sym (right u u_in) ∙ same ∙ right v v_in) ∙ duties-known p v s few below)))

-- a rule that reads a relation that treats two users differently at a third one tells them apart
apart_by_rule : (p : Problem) (k : ℕ) (r : Rule) (u v w : ℕ) → k < length p.rules → slice_get p.rules k ≡ Some r → w < p.users →
    any_read r (λ rho. tells_apart (p.related rho) u v w) ≡ true → are_related_alike p u v ≡ false
apart_by_rule p k r u v w known is below apart =
    one_fails (length p.rules) k (λ j. is_rule_alike p u v (slice_get p.rules j)) known
    (ap (is_rule_alike p u v) is ∙
    some_read r (λ rho. tells_apart (p.related rho) u v w) (λ rho. treats_alike p.users (p.related rho) u v) apart (λ rho. differs (p.related rho)))
  where
    unlike : (b : Bool) → not b ≡ true → b ≡ false
    unlike true h = absurd (false≢true h)
    unlike false h = refl

    differs : (holds : ℕ → ℕ → Bool) → tells_apart holds u v w ≡ true → treats_alike p.users holds u v ≡ false
    differs holds told =
        ap (λ b. b && (agree (holds u u) (holds v v) && agree (holds u v) (holds v u)))
        (one_fails p.users w (λ x. (x == u || x == v) || is_alike_to holds u v x) below (unlike _ told))

pub told_apart : (p : Problem) (k u v w : ℕ) (o : Option Rule) → slice_get p.rules k ≡ o → is_told_apart p u v w o ≡ true → are_related_alike p u v ≡ false
told_apart p k u v w o is apart = grind (arith, false≢true, and_both, apart_by_rule, slice_get_within, lt_back)

pub apart_by_rules : (p : Problem) (u v : ℕ) → are_related_alike p u v ≡ false → are_twins p [] u v ≡ false
apart_by_rules p u v apart = ap (λ b. may_do_the_same p u v && b) apart ∙ and-false (may_do_the_same p u v)

-- a user who has a step has no twin
pub busy_alone : (p : Problem) (a : List (Option ℕ)) (u : ℕ) (users : List ℕ) → has_no_step a u ≡ false → has_twin p a u users ≡ false
busy_alone p a u [] busy = refl
busy_alone p a u (v ∷ vs) busy = ap (λ b. b || has_twin p a u vs) (busy_no_twin p a u v busy) ∙ busy_alone p a u vs busy

-- ---- classes

-- the first twin is no later than any twin
no_later : (p : Problem) (u first v : ℕ) → IsFirstTwin p u first → are_twins p [] v u ≡ true → first ≤ v
no_later p u first v is twins = grind (arith, leb_tells, false≢true)

-- users are twins exactly where they have one first twin
pub one_first_twin : (p : Problem) (u v c d : ℕ) → u < p.users → v < p.users → IsFirstTwin p u c → IsFirstTwin p v d → (c == d) ≡ are_twins p [] u v
one_first_twin p u v c d u_in v_in own other = same_by (c == d) (are_twins p [] u v) forth back
  where
    c_in : c < p.users
    c_in = omega (arith, own.most, u_in)

    d_in : d < p.users
    d_in = omega (arith, other.most, v_in)

    forth : (c == d) ≡ true → are_twins p [] u v ≡ true
    forth same = twins_chain p [] u c v u_in c_in v_in (turned p c u own.twin) (subst (λ x. are_twins p [] x v ≡ true) (sym (eq_back c d same)) other.twin)

    back : are_twins p [] u v ≡ true → (c == d) ≡ true
    back twins =
        let low = no_later p u c d own (twins_chain p [] d v u d_in v_in u_in other.twin (turned p u v twins)) in
        let high = no_later p v d c other (twins_chain p [] c u v c_in u_in v_in own.twin twins) in
        eq_is c d (omega (arith, low, high))

pub one_more_known : (p : Problem) (classes : List (Option ℕ)) (u first : ℕ) → AreFirstTwins p classes → IsFirstTwin p u first →
    AreFirstTwins p (slice_set classes u (Some first))
one_more_known p classes u first right new v c known = at (given classes u first v c known)
  where
    at : ((v ≡ u) × (c ≡ first)) ⊎ (user_at classes v ≡ Some c) → IsFirstTwin p v c
    at (inl same) = subst (λ x. IsFirstTwin p x c) (sym same.0) (subst (IsFirstTwin p u) (sym same.1) new)
    at (inr before) = right v c before
