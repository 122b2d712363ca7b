-- Laws of histories, for whoever adds an entry at the end.
use Rattle.wf_board.proofs.Common.{◌≡◌, ℕ, ◌+◌, ◌≤◌, false, List, [], ◌∷◌, ◌++◌, length, take, Result, append_assoc, append-nil, refl, sym, ap, subst, ◌∙◌}
use Rattle.wf_board.proofs.Common.{arith, drop-append-le, take-append-drop, PolicyShape, Entry, Ask, Reply, Denial, Deed, State, opening_state, decision_of}
use Rattle.wf_board.proofs.Common.{Answers, IsReplyTo, IsStep, state_after_decision, state_after_deed, state_after_step, is_edited, EachAfter}
use Rattle.std.proofs.Common.{max, drop}
use Rattle.std.proofs.lemmas.List.{take-append-le}
use Rattle.wf_talk.specs.declared.reply.Reply.TheVariants as reply
use Rattle.wf_board.specs.Counting.{counted, lane_end}
use Rattle.wf_board.specs.Laws.Histories.{AreAnsweredOnce, AreRightful, IsRightful}
use Rattle.wf_board.specs.Laws.Histories.{RestsFrom, state_after}

-- the state after one more entry
pub after_more : (s : State) (entries : List Entry) (e : Entry) → state_after s (entries ++ e ∷ []) ≡ state_after_step (state_after s entries) e.ask e.reply
after_more s [] e = refl
after_more s (x ∷ xs) e = after_more (state_after_step s x.ask x.reply) xs e

-- the state after a history with several more entries
pub after_all : (s : State) (entries more : List Entry) → state_after s (entries ++ more) ≡ state_after (state_after s entries) more
after_all s [] more = refl
after_all s (x ∷ xs) more = after_all (state_after_step s x.ask x.reply) xs more

again_same : (s : State) (decision : Result Deed Denial) (n place : ℕ) → state_after_decision s decision (reply.Again n place) ≡ s
again_same s decision n place = grind arith

-- what is answered again leaves the state as it is
pub again_stays : (s : State) (what : Ask) (given : Reply) (n place : ℕ) → given ≡ reply.Again n place → state_after_step s what given ≡ s
again_stays s what given n place again = ap (λ r. state_after_step s what r) again ∙ again_same s (decision_of s.book what) n place

-- the state after a history with one more entry that is answered again
pub after_again : (s : State) (entries : List Entry) (e : Entry) (n place : ℕ) → e.reply ≡ reply.Again n place →
    state_after s (entries ++ e ∷ []) ≡ state_after s entries
after_again s entries e n place again = after_more s entries e ∙ again_stays (state_after s entries) e.ask e.reply n place again

-- what holds of each entry and those before it, and of one more
pub each_more : (P : List Entry → Entry → Type 0) (earlier entries : List Entry) (e : Entry) → EachAfter P earlier entries → P (earlier ++ entries) e →
    EachAfter P earlier (entries ++ e ∷ [])
each_more P earlier [] e each last = (subst (λ es. P es e) (append-nil earlier) last, tt)
each_more P earlier (x ∷ xs) e each last =
    (each.0, each_more P (earlier ++ x ∷ []) xs e each.1 (subst (λ es. P es e) (sym (append_assoc earlier (x ∷ []) xs)) last))

-- what holds of each entry and those before it holds of the later ones
pub each_later : (P : List Entry → Entry → Type 0) (earlier entries more : List Entry) → EachAfter P earlier (entries ++ more) →
    EachAfter P (earlier ++ entries) more
each_later P earlier [] more each = subst (λ es. EachAfter P es more) (sym (append-nil earlier)) each
each_later P earlier (x ∷ xs) more each = subst (λ es. EachAfter P es more) (append_assoc earlier (x ∷ []) xs) (each_later P (earlier ++ x ∷ []) xs more each.1)

-- and of those from a place on
pub each_from : (P : List Entry → Entry → Type 0) (n : ℕ) (entries : List Entry) → EachAfter P [] entries → EachAfter P (take n entries) (drop n entries)
each_from P n entries each = each_later P [] (take n entries) (drop n entries) (subst (EachAfter P []) (sym (take-append-drop n entries)) each)

-- the entries of a batch rest on one another with one more that does
pub rests_more : (start : ℕ) (entries : List Entry) (e : Entry) → start ≤ length entries →
    EachAfter (RestsFrom start) (take start entries) (drop start entries) →
    RestsFrom start entries e → EachAfter (RestsFrom start) (take start (entries ++ e ∷ [])) (drop start (entries ++ e ∷ []))
rests_more start entries e within each last = grind (arith, each_more, take-append-drop, take-append-le, drop-append-le)

no_again : (s : State) (given : Deed) (n place : ℕ) → IsReplyTo s given (reply.Again n place) → ⊥
no_again s given n place is = grind arith

answers_once : (s : State) (decision : Result Deed Denial) (given : Reply) (n place : ℕ) → given ≡ reply.Again n place → Answers s decision given → ⊥
answers_once s decision given n place again is = grind (arith, no_again)

-- a step is not answered again
pub step_once : (s : State) (what : Ask) (given : Reply) → IsStep s what given → (n place : ℕ) → ¬ (given ≡ reply.Again n place)
step_once s what given step n place again = answers_once s (decision_of s.book what) given n place again step

-- so it does not have to rest on others of its batch
pub step_rests : (s : State) (start : ℕ) (earlier : List Entry) (e : Entry) → IsStep s e.ask e.reply → RestsFrom start earlier e
step_rests s start earlier e step n place again = absurd (step_once s e.ask e.reply step n place again)

-- what is answered again rests on so many entries of its batch
pub again_rests : (start : ℕ) (earlier : List Entry) (e : Entry) (n place : ℕ) → e.reply ≡ reply.Again n place →
    n ≤ counted e.ask (drop (max (lane_end e.lane earlier) start) earlier) → RestsFrom start earlier e
again_rests start earlier e n place again enough = grind arith

-- with one more entry that is rightful all are
pub wants_more : (entries : List Entry) (e : Entry) → AreRightful entries → IsRightful e → AreRightful (entries ++ e ∷ [])
wants_more [] e wants last = (last, tt)
wants_more (x ∷ xs) e wants last = (wants.0, wants_more xs e wants.1 last)

-- nor is one with several more
pub once_all : (entries more : List Entry) → AreAnsweredOnce entries → AreAnsweredOnce more → AreAnsweredOnce (entries ++ more)
once_all [] more once later = later
once_all (x ∷ xs) more once later = (once.0, once_all xs more once.1 later)

-- ---- the policy, and the count of edits

deed_policy : (s : State) (given : Deed) (answer : Reply) → is_edited answer ≡ false → (state_after_deed s given answer).book.policy ≡ s.book.policy
deed_policy s given answer other = grind arith

decision_policy : (s : State) (decision : Result Deed Denial) (answer : Reply) → is_edited answer ≡ false →
    (state_after_decision s decision answer).book.policy ≡ s.book.policy
decision_policy s decision answer other = grind (arith, deed_policy)

-- a step that is no accepted edit leaves the policy
pub policy_stays : (s : State) (what : Ask) (given : Reply) → is_edited given ≡ false → (state_after_step s what given).book.policy ≡ s.book.policy
policy_stays s what given other = decision_policy s (decision_of s.book what) given other

deed_counts : (s : State) (given : Deed) (answer : Reply) → (state_after_deed s given answer).edits ≤ s.edits + 1
deed_counts s given answer = grind arith

decision_counts : (s : State) (decision : Result Deed Denial) (answer : Reply) → (state_after_decision s decision answer).edits ≤ s.edits + 1
decision_counts s decision answer = grind (arith, deed_counts)

edits_from : (s : State) (entries : List Entry) → (state_after s entries).edits ≤ s.edits + length entries
edits_from s [] = omega arith
edits_from s (e ∷ es) = grind (arith, decision_counts, (edits_from (state_after_step s e.ask e.reply) es))

-- there are no more edits than entries
pub edits_within : (p : PolicyShape) (entries : List Entry) → (state_after (opening_state p) entries).edits ≤ length entries
edits_within p entries = let from = edits_from (opening_state p) entries in omega (arith, from)
