-- Each entry of a legal history decides exactly what was asked.
use Rattle.wf_board.proofs.Common.{◌≡◌, ℕ, zero, suc, ◌+◌, ◌<◌, ◌≤◌, ◌⊎◌, inl, inr, Bool, true, false, List, [], ◌∷◌, ◌++◌, take, Some, Result, Ok, Err}
use Rattle.wf_board.proofs.Common.{if◌then◌else◌, append_assoc, append-nil, refl, sym, ap, subst, ◌∙◌, arith, eq_is, Tree, shape_of, PolicyShape}
use Rattle.wf_board.proofs.Common.{IsSoundPolicy, problem_of, refutes_soundly, CaseShape, assigned_of, finished_of, is_open, Edit, Entry, Ask, Reply, Denial}
use Rattle.wf_board.proofs.Common.{Amendment, amended, amendment_of, HoldsOf, changes_keep_policies_sound, Deed, Numbered, State, numbered_case, open_cases}
use Rattle.wf_board.proofs.Common.{opening_state, CanBeCompleted, IsFirstStranded, decision_of, Answers, IsReplyTo, IsStep, with_edited, EachAfter, IsRetry}
use Rattle.wf_board.proofs.Common.{IsRightAfter, AreCasesNumbered, AreNumberedFrom, IsSoundState, KeepsCompletable}
use Rattle.std.proofs.Common.{nat_eq}
use Rattle.std.proofs.Common.{slice_get}
use Rattle.constraint_forms.specs.Assign.{no_steps, no_users}
use Rattle.wf_talk.specs.declared.request.Request.TheVariants as request
use Rattle.wf_talk.specs.declared.request.Ask.TheVariants as ask
use Rattle.wf_talk.specs.declared.reply.Reply.TheVariants as reply
use Rattle.wf_talk.specs.declared.reply.Denial.TheVariants as denial
use Rattle.wf_board.specs.declared.deed.Deed.TheVariants as deed
use Rattle.wf_board.specs.Laws.Histories.{state_after}
use Rattle.wf_board.specs.Laws.Decided.{IsChangeExact, IsDeniedByTree, IsEditExact, IsExact, IsGrantExact, IsLeastStranded, IsRefuted}
use Rattle.wf_board.specs.Laws.{HistoriesAreExact}
use Rattle.wf_board.proofs.Amended.{open_can}
use Rattle.wf_board.proofs.Exact.{finished_assigned, refuted_claim, well_formed_any}
use Rattle.wf_board.proofs.Fixed.{none_assigned}
use Rattle.wf_board.proofs.Grants.{grants_are_exact}
use Rattle.wf_board.proofs.Keeping.{histories_stay_sound}
use Rattle.wf_board.proofs.Numbers.{histories_number_cases, none_below}
use Rattle.wf_board.proofs.Told.{IsTold, told}

-- ---- the least stranded case

-- of cases in the order of their numbers, this is the least open one that cannot be completed
record IsLeast (p : PolicyShape) (cases : List Numbered) (n f : ℕ) (tree : Tree) : Type 0 where
  case : CaseShape
  its_case : numbered_case cases n ≡ Some case
  live : is_open case ≡ true
  flow : case.flow ≡ f
  refuted : IsRefuted (problem_of p case.flow) (assigned_of case) (finished_of case) tree
  least : (m : ℕ) (other : CaseShape) → m < n → numbered_case cases m ≡ Some other → is_open other ≡ true → CanBeCompleted p other

least_later : (p : PolicyShape) (x : Numbered) (xs : List Numbered) (n f : ℕ) (tree : Tree) → x.number < n →
    (is_open x.case ≡ true → CanBeCompleted p x.case) → IsLeast p xs n f tree → IsLeast p (x ∷ xs) n f tree
least_later p x xs n f tree above first is = grind arith

least_from : (p : PolicyShape) (k : ℕ) (cases : List Numbered) (n f : ℕ) (tree : Tree) → IsSoundPolicy p → AreNumberedFrom k cases →
    IsFirstStranded p (open_cases cases) n f tree → (k ≤ n) × IsLeast p cases n f tree
least_from p k [] n f tree sound order is = absurd is
least_from p k (x ∷ xs) n f tree sound order is = at_first (is_open x.case) refl is (λ rest. least_from p (k + 1) xs n f tree sound order.1 rest)
  where
    later : (is_open x.case ≡ true → CanBeCompleted p x.case) → (k + 1 ≤ n) × IsLeast p xs n f tree → (k ≤ n) × IsLeast p (x ∷ xs) n f tree
    later first found = (omega (arith, found.0), least_later p x xs n f tree (omega (arith, found.0, order.0)) first found.1)

    at_first : (b : Bool) → is_open x.case ≡ b → IsFirstStranded p (if b then x ∷ open_cases xs else open_cases xs) n f tree →
        (IsFirstStranded p (open_cases xs) n f tree → (k + 1 ≤ n) × IsLeast p xs n f tree) → (k ≤ n) × IsLeast p (x ∷ xs) n f tree
    at_first true live (inl here) rest =
        let same : nat_eq x.number n ≡ true = eq_is x.number n here.0 in
        let at_place : k ≡ n = sym order.0 ∙ here.0 in (
          omega (arith, at_place),
          record {
            case = x.case;
            its_case = rw same refl;
            live = live;
            flow = here.1.0;
            refuted = record {
              refutes = here.1.1;
              incomplete = refutes_soundly (problem_of p x.case.flow) (assigned_of x.case) (finished_of x.case) (shape_of tree)
                  (well_formed_any p x.case.flow sound) (finished_assigned x.case) here.1.1;
            };
            least = grind (arith, none_below);
          },
        )
    at_first true live (inr there) rest = later (λ live. there.0) (rest there.1)
    at_first false live there rest = later (λ is_live. let apart : true ≡ false = sym is_live ∙ live in cc) (rest there)

least_stranded : (s : State) (a : Amendment) (n f : ℕ) (tree : Tree) → IsSoundPolicy (amended s.book.policy a) → AreCasesNumbered s →
    IsFirstStranded (amended s.book.policy a) (open_cases s.book.cases) n f tree → IsLeastStranded (with_edited s a) n f tree
least_stranded s a n f tree sound numbers is =
    let found = (least_from (amended s.book.policy a) 0 s.book.cases n f tree sound numbers.order is).1 in
    record { case = found.case; its_case = found.its_case; live = found.live; flow = found.flow; refuted = found.refuted; least = found.least }

-- a change that strands a case does not leave each open case one that can be completed
not_kept : (s : State) (n f : ℕ) (tree : Tree) → IsLeastStranded s n f tree → ¬ KeepsCompletable s
not_kept s n f tree is keeps = is.refuted.incomplete (keeps n is.case is.its_case is.live)

-- ---- edits

-- what is known of a state in a legal history
record IsKnown (s : State) : Type 0 where
  sound : IsSoundState s
  numbers : AreCasesNumbered s

change_exact : (s : State) (a : Amendment) (given : Reply) → AreCasesNumbered s → IsSoundPolicy (amended s.book.policy a) →
    IsReplyTo s (deed.Change a) given → ¬ (given ≡ reply.NoMemory) → IsChangeExact s a given
change_exact s a reply.NoMemory numbers after is memory = absurd (memory refl)
change_exact s a (reply.Edited number) numbers after is memory =
    let keeps : KeepsCompletable (with_edited s a) = λ n c found live. open_can (amended s.book.policy a) s.book.cases is.1 n c found live in
    record { accepted = (λ edited. keeps, λ kept. (number, refl)); strands = λ not. absurd (not keeps) }
change_exact s a (reply.Denied (denial.Strands n f tree)) numbers after is memory =
    let least = least_stranded s a n f tree after numbers is in
    record {
      accepted = (λ edited. cc edited.1, λ kept. absurd (not_kept (with_edited s a) n f tree least kept));
      strands = λ not. (n, (f, (tree, (refl, least))));
    }
change_exact s a given numbers after is memory = absurd is

sound_after : (s : State) (a : Amendment) → IsSoundState s → IsTold s.book (deed.Change a) → IsSoundPolicy (amended s.book.policy a)
sound_after s a sound known = grind (arith, changes_keep_policies_sound)

decided_change : (s : State) (by : List ℕ) (edit : Edit) (a : Amendment) → amendment_of s.book.policy by edit ≡ Ok a →
    decision_of s.book (ask.Request (request.Change by edit)) ≡ Ok (deed.Change a)
decided_change s by edit a is = rw is refl

edit_exact : (s : State) (what : Ask) (given : Reply) → IsKnown s → IsStep s what given → IsEditExact s what given
edit_exact s what given known step by edit a asked is decides =
    let decided : decision_of s.book what ≡ Ok (deed.Change a) = ap (decision_of s.book) asked ∙ decided_change s by edit a is in
    change_exact s a given known.numbers
    (sound_after s a known.sound (subst (HoldsOf (IsTold s.book)) decided (told s.book what)))
    (subst (λ r. Answers s r given) decided step) decides.memory

-- ---- claims

grant_exact : (s : State) (what : Ask) (given : Reply) → IsKnown s → IsStep s what given → IsGrantExact s what given
grant_exact s what given known step = grind (arith, grants_are_exact)

-- ---- denials

denied_by_tree : (s : State) (made : Deed) (d : Denial) → IsKnown s → IsTold s.book made → IsReplyTo s made (reply.Denied d) → IsDeniedByTree s (Ok made) d
denied_by_tree s (deed.Open f) (denial.Unsatisfiable g tree) known its is = (
  is.0,
  record {
    refutes = is.1;
    incomplete = refutes_soundly (problem_of s.book.policy f) no_users no_steps (shape_of tree) (well_formed_any s.book.policy f known.sound.policy)
        none_assigned is.1;
  },
)
denied_by_tree s (deed.Claim d) (denial.Stranded g tree) known its is = (
  is.0,
  record {
    refutes = is.1;
    incomplete = refuted_claim s d tree known.sound its (refl, is.1);
  },
)
denied_by_tree s made d known its is = grind (arith, least_stranded, sound_after)

same_denial : (x y : Denial) → reply.Denied x ≡ reply.Denied y → x ≡ y
same_denial x y h = cc

denial_exact : (s : State) (r : Result Deed Denial) (given : Reply) (d : Denial) → IsKnown s → HoldsOf (IsTold s.book) r → Answers s r given →
    given ≡ reply.Denied d →
    (r ≡ Err d) ⊎ IsDeniedByTree s r d
denial_exact s r given d known its is denied = grind (arith, denied_by_tree, same_denial)

-- ---- entries

step_exact : (s : State) (what : Ask) (given : Reply) → IsKnown s → IsStep s what given → IsExact s what given
step_exact s what given known step = record {
  grants = grant_exact s what given known step;
  edits = edit_exact s what given known step;
  denials = λ d denied. denial_exact s (decision_of s.book what) given d known (told s.book what) step denied;
}

again_exact : (s : State) (what : Ask) (given : Reply) (n place : ℕ) → given ≡ reply.Again n place → IsExact s what given
again_exact s what given n place again = grind arith

entry_exact : (p : PolicyShape) (rounds : ℕ) (earlier : List Entry) (e : Entry) → IsKnown (state_after (opening_state p) earlier) →
    IsRightAfter (opening_state p) rounds earlier e →
    IsExact (state_after (opening_state p) earlier) e.ask e.reply
entry_exact p rounds earlier e known right = by_reply right.1
  where
    by_reply : IsStep (state_after (opening_state p) earlier) e.ask e.reply ⊎ IsRetry (opening_state p) rounds earlier e →
        IsExact (state_after (opening_state p) earlier) e.ask e.reply
    by_reply (inl step) = step_exact (state_after (opening_state p) earlier) e.ask e.reply known step
    by_reply (inr retry) = again_exact (state_after (opening_state p) earlier) e.ask e.reply retry.0 retry.1.0 retry.1.1.0

-- what holds of each entry and those before it holds of the one at a place
each_at : (P : List Entry → Entry → Type 0) (earlier entries : List Entry) → EachAfter P earlier entries → (n : ℕ) (e : Entry) →
    slice_get entries n ≡ Some e → P (earlier ++ take n entries) e
each_at P earlier [] each n e is = cc
each_at P earlier (x ∷ xs) each zero e is = grind (arith, append-nil)
each_at P earlier (x ∷ xs) each (suc n) e is = subst (λ es. P es e) (append_assoc earlier (x ∷ []) (take n xs)) (each_at P (earlier ++ x ∷ []) xs each.1 n e is)

pub histories_are_exact : HistoriesAreExact
histories_are_exact p rounds entries sound legal n e is =
    entry_exact p rounds (take n entries) e
    (record { sound = histories_stay_sound p rounds entries sound legal n; numbers = histories_number_cases p (take n entries) })
    (each_at (IsRightAfter (opening_state p) rounds) [] entries legal n e is)
