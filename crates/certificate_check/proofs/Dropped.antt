-- A tree that does not mention an assigned step refutes without it too.
use Rattle.std.proofs.Common.{◌≡◌, ◌≢◌, refl, sym, ap, ◌∙◌, ℕ, Bool, true, false, not, arith, ◌&&◌, ◌==◌, List, [], ◌∷◌, length, Option, None, Some}
use Rattle.std.proofs.Common.{is_some, slice_get, slice_set, nat_lt}
use Rattle.std.proofs.lemmas.Bool.{false≢true, and_from}
use Rattle.std.proofs.lemmas.Bool.Decides.{eqb_tells, leb_tells, nat_tests}
use Rattle.std.proofs.lemmas.List.{length-set}
use Rattle.constraint_forms.specs.declared.rule.Rule.{Rule}
use Rattle.constraint_forms.specs.Assign.{user_at}
use Rattle.constraint_forms.proofs.RuleLaws.{falsified_by_named}
use Rattle.refutation_tree.specs.Tree.{Shape, Kids, holder, rule, node, no_kids, tree_kid, twin_kid}
use Rattle.policy_book.specs.Laws.Plans.{Problem}
use Rattle.policy_book.specs.Laws.Twins.{are_twins, is_one_of}
use Rattle.policy_book.specs.Laws.Refuting.{refutes, all_refute, have_users, authorised_users, is_misheld, is_broken, is_unassigned, is_rule_naming, mentions}
use Rattle.policy_book.specs.Laws.Refuting.{any_mentions}
use Rattle.certificate_check.specs.Laws.{UnmentionedStepDrops}
use Rattle.basics.proofs.Booleans.{and_both, or_false}
use Rattle.certificate_check.proofs.TwinLaws.{mean_twins, twins_mean}
use Rattle.certificate_check.proofs.Assigned.{not_some, none_not_some, given_other, given_same, given_past}

-- two assignments are the same but that the first gives a step to a user, and the second to nobody
record IsWithout (a b : List (Option ℕ)) (s u : ℕ) : Type 0 where
  long : length a ≡ length b
  here : user_at a s ≡ Some u
  gone : user_at b s ≡ None
  others : (t : ℕ) → t ≢ s → user_at a t ≡ user_at b t

-- what is given to another step in both makes no difference
without_given : (a b : List (Option ℕ)) (s u t v : ℕ) → IsWithout a b s u → t ≢ s → IsWithout (slice_set a t (Some v)) (slice_set b t (Some v)) s u
without_given a b s u t v w apart = grind (arith, length-set, given_other, eqb_tells, given_past, given_same, leb_tells)

-- a rule that does not name the step is falsified by both or by none
broken_without : (p : Problem) (a b : List (Option ℕ)) (s u : ℕ) → IsWithout a b s u → (o : Option Rule) → is_rule_naming s o ≡ false →
    is_broken p b o ≡ is_broken p a o
broken_without p a b s u w o h = grind (arith, falsified_by_named, false≢true)

-- twins stay twins where a step is given to nobody
twins_without : (p : Problem) (a b : List (Option ℕ)) (s u : ℕ) → IsWithout a b s u → (v w : ℕ) → are_twins p a v w ≡ true → are_twins p b v w ≡ true
twins_without p a b s u without v w h = grind (arith, twins_mean, mean_twins, eqb_tells, none_not_some)

mutual
  dropped : (p : Problem) (a b : List (Option ℕ)) (finished : List Bool) (s u : ℕ) → IsWithout a b s u → (tree : Shape) → mentions p.rules s tree ≡ false →
      refutes p a finished tree ≡ true → refutes p b finished tree ≡ true
  dropped p a b finished s u w (holder k) silent h =
      let apart : k ≢ s = λ same. false≢true (sym silent ∙ here k same) in
      ap (λ o. nat_lt k p.steps && is_misheld p finished k o) (sym (w.others k apart)) ∙ h
    where
      here : (k : ℕ) → k ≡ s → (s == k) ≡ true
      here k same = grind (arith, nat_tests)
  dropped p a b finished s u w (rule k) silent h = broken_without p a b s u w (slice_get p.rules k) silent ∙ h
  dropped p a b finished s u w (node k kids) silent h =
      let both = and_both (is_unassigned p a k) (have_users (authorised_users p k) kids && all_refute p a finished k [] kids) h in
      let rest = and_both (have_users (authorised_users p k) kids) (all_refute p a finished k [] kids) both.1 in
      let step = and_both (nat_lt k p.steps) (not (is_some (user_at a k))) both.0 in
      let apart : k ≢ s = λ same. none_not_some u (sym (not_some (user_at a k) step.1) ∙ ap (user_at a) same ∙ w.here) in
      let free : is_unassigned p b k ≡ true = ap (λ o. nat_lt k p.steps && not (is_some o)) (sym (w.others k apart)) ∙ both.0 in
      and_from (is_unassigned p b k) (have_users (authorised_users p k) kids && all_refute p b finished k [] kids) free
      (and_from (have_users (authorised_users p k) kids) (all_refute p b finished k [] kids) rest.0
      (kids_dropped p a b finished s u w k apart [] kids silent rest.1))

  kids_dropped : (p : Problem) (a b : List (Option ℕ)) (finished : List Bool) (s u : ℕ) → IsWithout a b s u → (k : ℕ) → k ≢ s → (earlier : List ℕ)
      (kids : Kids) → any_mentions p.rules s kids ≡ false → all_refute p a finished k earlier kids ≡ true → all_refute p b finished k earlier kids ≡ true
  kids_dropped p a b finished s u w k apart earlier no_kids silent h = refl
  kids_dropped p a b finished s u w k apart earlier (tree_kid v t kids) silent h =
      let quiet = or_false (mentions p.rules s t) (any_mentions p.rules s kids) silent in
      let both = and_both (refutes p (slice_set a k (Some v)) finished t) (all_refute p a finished k (v ∷ earlier) kids) h in
      and_from (refutes p (slice_set b k (Some v)) finished t) (all_refute p b finished k (v ∷ earlier) kids)
      (dropped p (slice_set a k (Some v)) (slice_set b k (Some v)) finished s u (without_given a b s u k v w apart) t quiet.0 both.0)
      (kids_dropped p a b finished s u w k apart (v ∷ earlier) kids quiet.1 both.1)
  kids_dropped p a b finished s u w k apart earlier (twin_kid v x kids) silent h =
      let both = and_both (is_one_of earlier x && are_twins p a v x) (all_refute p a finished k earlier kids) h in
      let twin = and_both (is_one_of earlier x) (are_twins p a v x) both.0 in
      and_from (is_one_of earlier x && are_twins p b v x) (all_refute p b finished k earlier kids)
      (and_from (is_one_of earlier x) (are_twins p b v x) twin.0 (twins_without p a b s u w v x twin.1))
      (kids_dropped p a b finished s u w k apart earlier kids silent both.1)

pub unmentioned_step_drops : UnmentionedStepDrops
unmentioned_step_drops p assigned finished s u tree below free silent h =
    dropped p (slice_set assigned s (Some u)) assigned finished s u (record {
      long = length-set assigned s (Some u);
      here = given_same assigned s u below;
      gone = free;
      others = λ t apart. given_other assigned s u t apart;
    }) tree silent h
