-- The cases of a state are numbered in order.
use Rattle.wf_board.proofs.Common.{◌≡◌, ℕ, ◌+◌, ◌<◌, List, [], ◌∷◌, ◌++◌, length, None, Result, Ok, Err, refl, arith, nat_tests, CaseShape, Entry, Ask, Reply}
use Rattle.wf_board.proofs.Common.{Denial, Deed, Numbered, State, numbered_case, opening_state, with_case_changed, decision_of, state_after_decision}
use Rattle.wf_board.proofs.Common.{state_after_deed, state_after_step, with_changed, with_opened, AreCasesNumbered, AreNumberedFrom}
use Rattle.std.proofs.lemmas.List.{length-append}
use Rattle.wf_talk.specs.declared.reply.Reply.TheVariants as reply
use Rattle.wf_board.specs.declared.deed.Deed.TheVariants as deed
use Rattle.wf_board.specs.Laws.Histories.{state_after}
use Rattle.wf_board.specs.Laws.{HistoriesNumberCases}

-- one more case gets the next number
numbered_more : (k : ℕ) (cases : List Numbered) (e : Numbered) → AreNumberedFrom k cases → e.number ≡ k + length cases → AreNumberedFrom k (cases ++ e ∷ [])
numbered_more k [] e all is = (omega (arith, is), tt)
numbered_more k (x ∷ xs) e all is = (all.0, numbered_more (k + 1) xs e all.1 (omega (arith, is)))

-- a change of a case leaves the numbers
numbered_changed : (n : ℕ) (change : CaseShape → CaseShape) (k : ℕ) (cases : List Numbered) → AreNumberedFrom k cases →
    AreNumberedFrom k (with_case_changed n change cases)
numbered_changed n change k [] all = tt
numbered_changed n change k (x ∷ xs) all = grind (arith, (numbered_changed n change (k + 1) xs all.1))

length_changed : (n : ℕ) (change : CaseShape → CaseShape) (cases : List Numbered) → length (with_case_changed n change cases) ≡ length cases
length_changed n change [] = refl
length_changed n change (x ∷ xs) = grind (arith, (length_changed n change xs))

changed_numbered : (s : State) (n : ℕ) (change : CaseShape → CaseShape) → AreCasesNumbered s → AreCasesNumbered (with_changed s n change)
changed_numbered s n change is = grind (arith, numbered_changed, length_changed)

opened_numbered : (s : State) (f : ℕ) → AreCasesNumbered s → AreCasesNumbered (with_opened s f)
opened_numbered s f is = grind (arith, length-append, numbered_more)

deed_numbered : (s : State) (given : Deed) (answer : Reply) → AreCasesNumbered s → AreCasesNumbered (state_after_deed s given answer)
deed_numbered s (deed.Open f) (reply.Opened n plan) is = opened_numbered s f is
deed_numbered s (deed.Claim d) (reply.Granted plan) is = changed_numbered s d.number _ is
deed_numbered s (deed.Finish d) (reply.Finished done) is = changed_numbered s d.number _ is
deed_numbered s (deed.GiveBack d) reply.Returned is = changed_numbered s d.number _ is
deed_numbered s (deed.Release n c t) reply.Released is = changed_numbered s n _ is
deed_numbered s (deed.Withdraw n) reply.Withdrawn is = changed_numbered s n _ is
deed_numbered s (deed.Change a) (reply.Edited number) is = record { order = is.order; next = is.next }
deed_numbered s given answer is = is

decision_numbered : (s : State) (decision : Result Deed Denial) (answer : Reply) → AreCasesNumbered s →
    AreCasesNumbered (state_after_decision s decision answer)
decision_numbered s (Ok given) answer is = deed_numbered s given answer is
decision_numbered s (Err d) answer is = is

pub step_numbered : (s : State) (what : Ask) (answer : Reply) → AreCasesNumbered s → AreCasesNumbered (state_after_step s what answer)
step_numbered s what answer is = decision_numbered s (decision_of s.book what) answer is

history_numbered : (s : State) (entries : List Entry) → AreCasesNumbered s → AreCasesNumbered (state_after s entries)
history_numbered s [] is = is
history_numbered s (e ∷ es) is = history_numbered (state_after_step s e.ask e.reply) es (step_numbered s e.ask e.reply is)

pub histories_number_cases : HistoriesNumberCases
histories_number_cases p entries = history_numbered (opening_state p) entries (record { order = tt; next = refl })

-- ---- numbers and places

-- no case has a number below the first
pub none_below : (k m : ℕ) (cases : List Numbered) → AreNumberedFrom k cases → m < k → numbered_case cases m ≡ None
none_below k m [] all below = refl
none_below k m (x ∷ xs) all below = grind (arith, nat_tests, (none_below (k + 1) m xs all.1 (omega (arith, below))))
