-- What can be met with fewer rules, and what becomes of rules when one of them is left out.
use Rattle.std.proofs.Common.{◌≡◌, sym, ap, ◌∙◌, subst, ℕ, zero, suc, ◌+◌, ◌<◌, ◌≤◌, Bool, true, false, List, length, Option, Some, slice_get, arith, ◌⊎◌, inl}
use Rattle.std.proofs.Common.{inr, eqb, ◌≢◌}
use Rattle.std.proofs.lemmas.Bool.Decides.{eqb_tells}
use Rattle.std.proofs.lemmas.Option.{slice_get_within}
use Rattle.std.specs.Bool.{IsTrue}
use Rattle.refutation_tree.specs.Tree.{Shape}
use Rattle.policy_book.specs.Laws.Plans.{AreAssigned, IsCompletable, IsWellFormed, Problem}
use Rattle.policy_book.specs.Laws.Refuting.{refutes}
use Rattle.policy_book.specs.Laws.Twins.{is_one_of}
use Rattle.certificate_check.proofs.Refuted.{refutes_soundly}
use Rattle.rule_core.specs.Search.{AreAscending, FewerIsEasier, IsBlocked, IsCore, problem_with, rules_at, without}
use Rattle.rule_core.specs.Leaves.{uses_rule}
use Rattle.rule_core.specs.Trials.{HasTried, kept_at, numbers_from}
use Rattle.rule_core.proofs.Listing.{ascending_kept, ascending_numbers, ascending_without, kept_among, kept_first, known_ascending, without_among}
use Rattle.rule_core.proofs.Listing.{without_within, without_other}
use Rattle.rule_core.proofs.Picking.{picked_among, picked_at, picked_rules, picked_there}
use Rattle.rule_core.proofs.Sufficing.{leaves_suffice}

-- what is completable with some rules is so with fewer
pub fewer_completable : FewerIsEasier
fewer_completable p some all assigned finished among plan = (
  plan.0,
  record {
    whole = plan.1.whole;
    known = plan.1.known;
    keeps = plan.1.keeps;
    allowed = plan.1.allowed;
    obeyed = λ i r is. let found = picked_among p.rules some all among i r is in plan.1.obeyed found.0 r found.1;
  },
)

formed_with : (p : Problem) (numbers : List ℕ) → IsWellFormed p → IsWellFormed (problem_with p numbers)
formed_with p numbers formed i r is = let found = picked_rules p.rules numbers i r is in formed found.0 r found.1

-- where a tree refutes under some rules, those at its leaves cannot be met together
pub leaves_block : (p : Problem) (numbers : List ℕ) (assigned : List (Option ℕ)) (finished : List Bool) (tree : Shape) → IsWellFormed p →
    AreAssigned finished assigned → AreAscending 0 (length p.rules) numbers →
    IsTrue (refutes (problem_with p numbers) assigned finished tree) → IsBlocked p assigned finished (kept_at (λ i. uses_rule i tree) 0 numbers)
leaves_block p numbers assigned finished tree formed all known h =
    let kept = kept_at (λ i. uses_rule i tree) 0 numbers in
    let other = leaves_suffice (problem_with p numbers) (rules_at p.rules kept) assigned finished tree
    (picked_among p.rules kept numbers (kept_among (λ i. uses_rule i tree) 0 numbers))
    (λ i r uses is. let found = picked_at p.rules 0 numbers i r known is in
    picked_there p.rules kept found.0 r (kept_first (λ i. uses_rule i tree) numbers i found.0 found.1 uses) found.2) h in
    record {
      known = ascending_kept (λ i. uses_rule i tree) 0 0 (length p.rules) numbers known;
      fails = refutes_soundly (problem_with p kept) assigned finished other.0 (formed_with p kept formed) all other.1;
    }

number_at : (k n i : ℕ) → i < n → slice_get (numbers_from k n) i ≡ Some (k + i)
number_at k zero i below = absurd (omega (arith, below))
number_at k (suc n) zero below = let here : k ≡ k + 0 = omega arith in ap Some here
number_at k (suc n) (suc i) below = let next : (k + 1) + i ≡ k + suc i = omega arith in number_at (k + 1) n i (omega (arith, below)) ∙ ap Some next

number_first : (n i : ℕ) → i < n → slice_get (numbers_from 0 n) i ≡ Some i
number_first n i below = let same : 0 + i ≡ i = omega arith in number_at 0 n i below ∙ ap Some same

ascending_first : (n : ℕ) → AreAscending 0 n (numbers_from 0 n)
ascending_first n = let same : 0 + n ≡ n = omega arith in subst (λ m. AreAscending 0 m (numbers_from 0 n)) same (ascending_numbers 0 n)

-- the same, under all rules
pub leaves_block_first : (p : Problem) (n : ℕ) (assigned : List (Option ℕ)) (finished : List Bool) (tree : Shape) → IsWellFormed p →
    AreAssigned finished assigned → n ≡ length p.rules →
    IsTrue (refutes p assigned finished tree) → IsBlocked p assigned finished (kept_at (λ i. uses_rule i tree) 0 (numbers_from 0 n))
leaves_block_first p n assigned finished tree formed all count h =
    subst (λ m. IsBlocked p assigned finished (kept_at (λ i. uses_rule i tree) 0 (numbers_from 0 m))) (sym count)
    (let kept = kept_at (λ i. uses_rule i tree) 0 (numbers_from 0 (length p.rules)) in
    let other = leaves_suffice p (rules_at p.rules kept) assigned finished tree
    (picked_rules p.rules kept)
    (λ i r uses is. picked_there p.rules kept i r (kept_first (λ i. uses_rule i tree) (numbers_from 0 (length p.rules)) i i
    (number_first (length p.rules) i (slice_get_within p.rules i r is)) uses) is) h in
    record {
      known = ascending_kept (λ i. uses_rule i tree) 0 0 (length p.rules) (numbers_from 0 (length p.rules)) (ascending_first (length p.rules));
      fails = refutes_soundly (problem_with p kept) assigned finished other.0 (formed_with p kept formed) all other.1;
    })

-- a rule without which there is a plan stays
pub tried_needed : (p : Problem) (numbers : List ℕ) (k : ℕ) (assigned : List (Option ℕ)) (finished : List Bool) → IsBlocked p assigned finished numbers →
    IsCompletable (problem_with p (without k numbers)) assigned finished → HasTried p assigned finished numbers k numbers
tried_needed p numbers k assigned finished blocked plan =
    record { blocked = blocked; among = λ m h. h; needed = λ one. plan }

-- a rule without which there is none goes, with those at no leaf
pub tried_left : (p : Problem) (numbers : List ℕ) (k : ℕ) (assigned : List (Option ℕ)) (finished : List Bool) (tree : Shape) → IsWellFormed p →
    AreAssigned finished assigned → AreAscending 0 (length p.rules) numbers →
    IsTrue (refutes (problem_with p (without k numbers)) assigned finished tree) →
    HasTried p assigned finished numbers k (kept_at (λ i. uses_rule i tree) 0 (without k numbers))
tried_left p numbers k assigned finished tree formed all known h =
    let kept = kept_among (λ i. uses_rule i tree) 0 (without k numbers) in
    record {
      blocked = leaves_block p (without k numbers) assigned finished tree formed all (ascending_without k 0 (length p.rules) numbers known) h;
      among = λ m one. without_among k numbers m (kept m one);
      needed = λ one. absurd (without_other k numbers (kept k one));
    }

-- where rules cannot be met together, all rules cannot
pub core_blocks : (p : Problem) (assigned : List (Option ℕ)) (finished : List Bool) (numbers : List ℕ) → IsCore p assigned finished numbers →
    IsCompletable p assigned finished → ⊥
core_blocks p assigned finished numbers core plan = core.fails (
  plan.0,
  record {
    whole = plan.1.whole;
    known = plan.1.known;
    keeps = plan.1.keeps;
    allowed = plan.1.allowed;
    obeyed = λ i r is. let found = picked_rules p.rules numbers i r is in plan.1.obeyed found.0 r found.1;
  },
)

-- the rules so far are needed
abbrev pub AreNeeded : Problem → List (Option ℕ) → List Bool → ℕ → List ℕ → Type 0
AreNeeded p assigned finished n numbers = (k : ℕ) → k < n → is_one_of numbers k ≡ true → IsCompletable (problem_with p (without k numbers)) assigned finished

pub one_more_needed : (p : Problem) (before left : List ℕ) (n : ℕ) (assigned : List (Option ℕ)) (finished : List Bool) →
    AreNeeded p assigned finished n before → HasTried p assigned finished before n left → AreNeeded p assigned finished (n + 1) left
one_more_needed p before left n assigned finished needed tried k below one = at (eqb_tells k n)
  where
    at : ((eqb k n ≡ true) × (k ≡ n)) ⊎ ((eqb k n ≡ false) × (k ≢ n)) → IsCompletable (problem_with p (without k left)) assigned finished
    at (inl same) = subst (λ m. IsCompletable (problem_with p (without m left)) assigned finished) (sym same.1)
        (tried.needed (subst (λ m. is_one_of left m ≡ true) same.1 one))
    at (inr apart) = let other = apart.1 in
        fewer_completable p (without k left) (without k before) assigned finished (without_within k left before tried.among)
        (needed k (omega (arith, below, other)) (tried.among k one))

pub is_core : (p : Problem) (numbers : List ℕ) (n : ℕ) (assigned : List (Option ℕ)) (finished : List Bool) → IsBlocked p assigned finished numbers →
    AreNeeded p assigned finished n numbers → length p.rules ≤ n → IsCore p assigned finished numbers
is_core p numbers n assigned finished blocked needed all = record {
  known = blocked.known;
  fails = blocked.fails;
  needed = λ k one. let below = known_ascending 0 (length p.rules) numbers k blocked.known one in needed k (omega (arith, all, below)) one;
}
