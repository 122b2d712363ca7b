-- What every step of a session keeps.
use Rattle.wf_board.proofs.Common.{◌≡◌, ℕ, zero, suc, ◌<◌, ◌⊎◌, inl, inr, true, List, [], ◌∷◌, ◌++◌, length, take, Some, Result, Ok, Err, sym, ap, subst, ◌∙◌}
use Rattle.wf_board.proofs.Common.{arith, is_held, Free, Held, Withdrawn, PolicyShape, IsSoundPolicy, flow_at, problem_of, IsCompletable, IsValidPlan}
use Rattle.wf_board.proofs.Common.{CaseShape, assigned_of, finished_case, finished_of, fresh_case, is_open, state_at, with_phase, with_state, Entry, Ask, Reply}
use Rattle.wf_board.proofs.Common.{Denial, Deed, Duty, Amendment, amended, HoldsOf, changes_keep_policies_sound, CanAllBeCompleted, Numbered, State}
use Rattle.wf_board.proofs.Common.{numbered_case, open_cases, opening_state, with_case_changed, decision_of, Answers, IsReplyTo, IsStep, state_after_decision}
use Rattle.wf_board.proofs.Common.{state_after_deed, state_after_step, with_changed, with_edited, with_opened, EachAfter, IsRetry, IsRightAfter, IsOfPolicy}
use Rattle.wf_board.proofs.Common.{IsSoundState, KeepsCompletable}
use Rattle.constraint_forms.specs.Assign.{no_steps, no_users}
use Rattle.wf_talk.specs.declared.reply.Reply.TheVariants as reply
use Rattle.wf_board.specs.declared.deed.Deed.TheVariants as deed
use Rattle.wf_board.specs.Laws.Histories.{state_after}
use Rattle.wf_board.proofs.HistoryLaws.{after_more, again_stays}
use Rattle.wf_board.specs.Laws.{HistoriesKeepCompletable, HistoriesStaySound, PlansStayValid, StepsKeepCompletable}
use Rattle.wf_board.proofs.Told.{HasStep, IsTold, claim_free, held_by, told}
use Rattle.wf_board.proofs.Valid.{valid_claimed, valid_finished, valid_freed, valid_fresh}
use Rattle.wf_board.proofs.Known.{of_policy_claimed, of_policy_finished, of_policy_freed, of_policy_fresh, of_policy_in_phase}
use Rattle.wf_board.proofs.Amended.{of_policy_amended, open_can, same_case}

-- P holds of each case that is found
abbrev AllCases : (CaseShape → Type 0) → List Numbered → Type 0
AllCases P cases = (n : ℕ) (c : CaseShape) → numbered_case cases n ≡ Some c → P c

-- the case at a number after a change: the one that was changed, or one from before
record IsChanged (n : ℕ) (change : CaseShape → CaseShape) (cases : List Numbered) (d : CaseShape) : Type 0 where
  before : CaseShape
  found : numbered_case cases n ≡ Some before
  changed : d ≡ change before

read_changed : (m n : ℕ) (change : CaseShape → CaseShape) (cases : List Numbered) (d : CaseShape) →
    numbered_case (with_case_changed n change cases) m ≡ Some d →
    IsChanged n change cases d ⊎ (numbered_case cases m ≡ Some d)
read_changed m n change [] d h = inr h
read_changed m n change (x ∷ xs) d h = grind (arith, same_case, (read_changed m n change xs d))

all_changed : (P : CaseShape → Type 0) (n : ℕ) (change : CaseShape → CaseShape) (cases : List Numbered) → AllCases P cases →
    ((c : CaseShape) → numbered_case cases n ≡ Some c → P c → P (change c)) → AllCases P (with_case_changed n change cases)
all_changed P n change cases all kept m d h = by_read (read_changed m n change cases d h)
  where
    by_read : IsChanged n change cases d ⊎ (numbered_case cases m ≡ Some d) → P d
    by_read (inl is) = subst P (sym is.changed) (kept is.before is.found (all n is.before is.found))
    by_read (inr is) = all m d is

read_added : (m : ℕ) (cases : List Numbered) (new : Numbered) (d : CaseShape) → numbered_case (cases ++ new ∷ []) m ≡ Some d → (d ≡ new.case) ⊎
    (numbered_case cases m ≡ Some d)
read_added m [] new d h = grind (arith, same_case)
read_added m (x ∷ xs) new d h = grind (arith, (read_added m xs new d))

all_added : (P : CaseShape → Type 0) (cases : List Numbered) (new : Numbered) → AllCases P cases → P new.case → AllCases P (cases ++ new ∷ [])
all_added P cases new all last = grind (arith, read_added)

-- ---- one step

-- a case can be completed, if it is open
abbrev MayEnd : PolicyShape → CaseShape → Type 0
MayEnd p c = is_open c ≡ true → IsCompletable (problem_of p c.flow) (assigned_of c) (finished_of c)

-- what is kept of each case
abbrev IsKept : PolicyShape → CaseShape → Type 0
IsKept p c = IsOfPolicy p c × MayEnd p c

-- what is kept of a state
abbrev pub Keeps : State → Type 0
Keeps s = IsSoundState s × KeepsCompletable s

changed_keeps : (s : State) (n : ℕ) (change : CaseShape → CaseShape) → Keeps s →
    ((c : CaseShape) → numbered_case s.book.cases n ≡ Some c → IsKept s.book.policy c → IsKept s.book.policy (change c)) →
    Keeps (with_changed s n change)
changed_keeps s n change keeps kept =
    let all = all_changed (IsKept s.book.policy) n change s.book.cases (λ m c found. (keeps.0.cases m c found, keeps.1 m c found)) kept in
    (record { policy = keeps.0.policy; cases = λ m c found. (all m c found).0 }, λ m c found. (all m c found).1)

-- the change of the one case that a deed names
named_keeps : (s : State) (n : ℕ) (c : CaseShape) (t : ℕ) (change : CaseShape → CaseShape) → Keeps s → HasStep s.book n c t →
    (IsOfPolicy s.book.policy c → t < length c.states → IsCompletable (problem_of s.book.policy c.flow) (assigned_of c) (finished_of c) →
    IsKept s.book.policy (change c)) →
    Keeps (with_changed s n change)
named_keeps s n c t change keeps there kept = changed_keeps s n change keeps
    (λ d found is. subst (λ (x : CaseShape). IsKept s.book.policy (change x)) (same_case c d (sym there.case.found ∙ found)) known)
  where
    known : IsKept s.book.policy (change c)
    known =
        let of_policy = keeps.0.cases n c there.case.found in
        kept of_policy (subst (λ k. t < k) (sym of_policy.steps) there.step) (keeps.1 n c there.case.found there.case.live)

opened_keeps : (s : State) (f : ℕ) (plan : List ℕ) → Keeps s → f < length s.book.policy.flow_names →
    IsValidPlan (problem_of s.book.policy f) no_users no_steps plan → Keeps (with_opened s f)
opened_keeps s f plan keeps known valid =
    let steps = length (flow_at s.book.policy f).flow.steps in
    let new : Numbered = record { number = s.book.ever; case = fresh_case f steps } in
    let all = all_added (IsKept s.book.policy) s.book.cases new (λ m c found. (keeps.0.cases m c found, keeps.1 m c found)) (
      of_policy_fresh s.book.policy f (subst (λ k. f < k) keeps.0.policy.named known),
      λ live. (plan, valid_fresh (problem_of s.book.policy f) f steps plan valid),
    ) in
    (record { policy = keeps.0.policy; cases = λ m c found. (all m c found).0 }, λ m c found. (all m c found).1)

claimed_keeps : (s : State) (d : Duty) (plan : List ℕ) → Keeps s → IsTold s.book (deed.Claim d) → IsReplyTo s (deed.Claim d) (reply.Granted plan) →
    Keeps (with_changed s d.number (λ c. with_state c d.step (Held d.user)))
claimed_keeps s d plan keeps known valid =
    named_keeps s d.number d.case d.step (λ c. with_state c d.step (Held d.user)) keeps known.0.there (λ of_policy below complete. (
      of_policy_claimed s.book.policy d.case d.step d.user below known.0.user of_policy,
      λ live. (plan, valid_claimed (problem_of s.book.policy d.case.flow) d.case d.step d.user plan below (claim_free s.book d known.1) valid),
    ))

finished_keeps : (s : State) (n : ℕ) (c : CaseShape) (t : ℕ) → Keeps s → HasStep s.book n c t → is_held (state_at c t) ≡ true →
    Keeps (with_changed s n (λ d. finished_case d t))
finished_keeps s n c t keeps there held = named_keeps s n c t (λ d. finished_case d t) keeps there (λ of_policy below complete. (
  of_policy_finished s.book.policy c t held of_policy,
  λ live. (complete.0, valid_finished (problem_of s.book.policy c.flow) c t complete.0 held complete.1),
))

freed_keeps : (s : State) (n : ℕ) (c : CaseShape) (t : ℕ) → Keeps s → HasStep s.book n c t → is_held (state_at c t) ≡ true →
    Keeps (with_changed s n (λ d. with_state d t Free))
freed_keeps s n c t keeps there held = named_keeps s n c t (λ d. with_state d t Free) keeps there (λ of_policy below complete. (
  of_policy_freed s.book.policy c t held of_policy,
  λ live. (complete.0, valid_freed (problem_of s.book.policy c.flow) c t complete.0 held complete.1),
))

withdrawn_keeps : (s : State) (n : ℕ) → Keeps s → Keeps (with_changed s n (λ d. with_phase d Withdrawn))
withdrawn_keeps s n keeps =
    changed_keeps s n (λ d. with_phase d Withdrawn) keeps (λ c found is. (of_policy_in_phase s.book.policy c Withdrawn is.0, λ live. cc))

edited_keeps : (s : State) (a : Amendment) → Keeps s → IsTold s.book (deed.Change a) →
    CanAllBeCompleted (amended s.book.policy a) (open_cases s.book.cases) → Keeps (with_edited s a)
edited_keeps s a keeps known all =
    let p = s.book.policy in
    let its = known.0 keeps.0.policy in (
      record {
        policy = changes_keep_policies_sound p a keeps.0.policy its.found its.allowed;
        cases = λ n c found. of_policy_amended p a c its.found (keeps.0.cases n c found);
      },
      λ n c found live. open_can (amended p a) s.book.cases all n c found live,
    )

deed_keeps : (s : State) (given : Deed) (answer : Reply) → Keeps s → IsTold s.book given → IsReplyTo s given answer → Keeps (state_after_deed s given answer)
deed_keeps s (deed.Open f) (reply.Opened n plan) keeps known is = opened_keeps s f plan keeps known.0 is.1
deed_keeps s (deed.Claim d) (reply.Granted plan) keeps known is = claimed_keeps s d plan keeps known is
deed_keeps s (deed.Finish d) (reply.Finished done) keeps known is = grind (arith, finished_keeps, held_by)
deed_keeps s (deed.GiveBack d) reply.Returned keeps known is = grind (arith, freed_keeps, held_by)
deed_keeps s (deed.Release n c t) reply.Released keeps known is = freed_keeps s n c t keeps known.0 known.1
deed_keeps s (deed.Withdraw n) reply.Withdrawn keeps known is = withdrawn_keeps s n keeps
deed_keeps s (deed.Change a) (reply.Edited number) keeps known is = edited_keeps s a keeps known is.1
deed_keeps s given answer keeps known is = keeps

decision_keeps : (s : State) (decision : Result Deed Denial) (answer : Reply) → Keeps s → HoldsOf (IsTold s.book) decision → Answers s decision answer →
    Keeps (state_after_decision s decision answer)
decision_keeps s (Ok given) answer keeps known is = deed_keeps s given answer keeps known is
decision_keeps s (Err d) answer keeps known is = keeps

pub step_keeps : (s : State) (what : Ask) (given : Reply) → Keeps s → IsStep s what given → Keeps (state_after_step s what given)
step_keeps s what given keeps step = decision_keeps s (decision_of s.book what) given keeps (told s.book what) step

pub steps_keep_completable : StepsKeepCompletable
steps_keep_completable s what given sound complete step = step_keeps s what given (sound, complete) step

-- ---- histories

entry_keeps : (start : State) (rounds : ℕ) (earlier : List Entry) (e : Entry) → Keeps (state_after start earlier) → IsRightAfter start rounds earlier e →
    Keeps (state_after start (earlier ++ e ∷ []))
entry_keeps start rounds earlier e keeps right = subst Keeps (sym (after_more start earlier e)) (by_reply right.1)
  where
    by_reply : IsStep (state_after start earlier) e.ask e.reply ⊎ IsRetry start rounds earlier e →
        Keeps (state_after_step (state_after start earlier) e.ask e.reply)
    by_reply (inl step) = step_keeps (state_after start earlier) e.ask e.reply keeps step
    by_reply (inr retry) =
        subst Keeps (sym (again_stays (state_after start earlier) e.ask e.reply retry.0 retry.1.0 retry.1.1.0)) keeps

pub history_keeps : (start : State) (rounds : ℕ) (earlier entries : List Entry) → Keeps (state_after start earlier) →
    EachAfter (IsRightAfter start rounds) earlier entries → (n : ℕ) →
    Keeps (state_after (state_after start earlier) (take n entries))
history_keeps start rounds earlier entries keeps legal zero = keeps
history_keeps start rounds earlier [] keeps legal (suc n) = keeps
history_keeps start rounds earlier (e ∷ es) keeps legal (suc n) =
    subst (λ s. Keeps (state_after s (take n es))) (after_more start earlier e)
    (history_keeps start rounds (earlier ++ e ∷ []) es (entry_keeps start rounds earlier e keeps legal.0) legal.1 n)

pub opening_keeps : (p : PolicyShape) → IsSoundPolicy p → Keeps (opening_state p)
opening_keeps p sound = (record { policy = sound; cases = λ n c found. cc }, λ n c found live. cc)

pub histories_keep_completable : HistoriesKeepCompletable
histories_keep_completable p rounds entries sound legal n = (history_keeps (opening_state p) rounds [] entries (opening_keeps p sound) legal n).1

pub histories_stay_sound : HistoriesStaySound
histories_stay_sound p rounds entries sound legal n = (history_keeps (opening_state p) rounds [] entries (opening_keeps p sound) legal n).0

-- ---- plans

holder_holds : (c : CaseShape) (t u : ℕ) → state_at c t ≡ Held u → is_held (state_at c t) ≡ true
holder_holds c t u held = ap is_held held

pub plans_stay_valid : PlansStayValid
plans_stay_valid p c t u plan held valid = (
  valid_finished (problem_of p c.flow) c t plan (holder_holds c t u held) valid,
  valid_freed (problem_of p c.flow) c t plan (holder_holds c t u held) valid,
)
