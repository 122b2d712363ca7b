-- What does not count for a request leaves what its decision rests on.
use Rattle.wf_board.proofs.Common.{◌≡◌, ℕ, ◌+◌, inl, Bool, false, is_some, List, [], ◌∷◌, ◌++◌, take, Option, Some, Result, if◌then◌else◌, refl, sym, ap, subst}
use Rattle.wf_board.proofs.Common.{◌∙◌, arith, take-append-drop, eq_back, eq_is, or_false, CaseShape, Entry, Ask, Reply, Denial, Deed, Verdict, Book}
use Rattle.wf_board.proofs.Common.{Numbered, State, numbered_case, with_case_changed, decision_of, Answers, IsReplyTo}
use Rattle.wf_board.proofs.Common.{IsStep, state_after_decision, state_after_deed, state_after_step, is_edited, EachAfter, IsRightAfter, IsRight, HoldsOf}
use Rattle.std.proofs.Common.{nat_eq, drop}
use Rattle.wf_talk.specs.Requests.{case_of_ask}
use Rattle.wf_talk.specs.declared.request.Request.TheVariants as request
use Rattle.wf_talk.specs.declared.request.Ask.TheVariants as ask
use Rattle.wf_talk.specs.declared.reply.Reply.TheVariants as reply
use Rattle.wf_board.specs.declared.deed.Deed.TheVariants as deed
use Rattle.wf_board.specs.Counting.{IsFresh, changed_case, changes_any, counted, counts_for, is_number}
use Rattle.wf_board.specs.Laws.Histories.{IsLegal, state_after}
use Rattle.wf_board.proofs.HistoryLaws.{after_all, after_more, again_stays, each_from}
use Rattle.wf_board.proofs.Snaps.{claim_no_change, opening_no_change, right_same, same_claim}
use Rattle.wf_board.proofs.Snaps.{same_opening, with_cases}

-- ---- what is the same

-- two states have what a verdict on what is asked rests on alike: the policy for an opening, for a claim its case too, and
-- for an edit or a view over the open cases the whole book
abbrev pub SameFor : Ask → State → State → Type 0
SameFor (ask.Request (request.OpenCase flow)) s t = s.book.policy ≡ t.book.policy
SameFor (ask.Request (request.Claim n step user)) s t = (s.book.policy ≡ t.book.policy) × (numbered_case s.book.cases n ≡ numbered_case t.book.cases n)
SameFor (ask.Request (request.Change by edit)) s t = s.book ≡ t.book
SameFor (ask.Request (request.Worklist user)) s t = s.book ≡ t.book
SameFor (ask.Request (request.WhatIf by edit)) s t = s.book ≡ t.book
SameFor what s t = Unit {0}

pub same_here : (what : Ask) (s : State) → SameFor what s s
same_here what s = grind arith

pub same_then : (what : Ask) (s t u : State) → SameFor what s t → SameFor what t u → SameFor what s u
same_then what s t u first later = grind arith

-- ---- one step

other_changed : (m n : ℕ) (change : CaseShape → CaseShape) (cases : List Numbered) → nat_eq n m ≡ false →
    numbered_case (with_case_changed n change cases) m ≡ numbered_case cases m
other_changed m n change [] other = refl
other_changed m n change (x ∷ xs) other = grind (arith, eq_is, eq_back, (other_changed m n change xs other))

other_added : (m : ℕ) (cases : List Numbered) (new : Numbered) → nat_eq new.number m ≡ false → numbered_case (cases ++ new ∷ []) m ≡ numbered_case cases m
other_added m [] new other = rw other refl
other_added m (x ∷ xs) new other = grind (arith, (other_added m xs new other))

-- a deed changes the case that the line names
abbrev IsNamed : Ask → Deed → Type 0
IsNamed what (deed.Open f) = Unit {0}
IsNamed what (deed.Claim d) = case_of_ask what ≡ Some d.number
IsNamed what (deed.Finish d) = case_of_ask what ≡ Some d.number
IsNamed what (deed.GiveBack d) = case_of_ask what ≡ Some d.number
IsNamed what (deed.Release n c t) = case_of_ask what ≡ Some n
IsNamed what (deed.Withdraw n) = case_of_ask what ≡ Some n
IsNamed what (deed.Change a) = Unit {0}
IsNamed what (deed.Show c) = Unit {0}
IsNamed what (deed.Work u) = Unit {0}
IsNamed what (deed.WhatIf a) = Unit {0}
IsNamed what (deed.TurnAway bad) = Unit {0}

decision_named : (b : Book) (what : Ask) → HoldsOf (IsNamed what) (decision_of b what)
decision_named b what = grind arith

-- another case than the one that was changed
not_this : (m n : ℕ) (o : Option ℕ) → o ≡ Some n → is_number m o ≡ false → nat_eq n m ≡ false
not_this m n o same other = subst (λ x. is_number m x ≡ false) same other

no_case : {X : Type 0} (o : Option ℕ) (n : ℕ) → o ≡ Some n → is_some o ≡ false → X
no_case o n same other = grind arith

deed_case : (s : State) (what : Ask) (given : Deed) (answer : Reply) (m : ℕ) → IsNamed what given → IsReplyTo s given answer →
    is_number m (changed_case what answer) ≡ false →
    numbered_case s.book.cases m ≡ numbered_case (state_after_deed s given answer).book.cases m
deed_case s what given answer m named is other = grind (arith, other_added, other_changed, not_this)

decision_case : (s : State) (what : Ask) (decision : Result Deed Denial) (answer : Reply) (m : ℕ) → HoldsOf (IsNamed what) decision →
    Answers s decision answer →
    is_number m (changed_case what answer) ≡ false → numbered_case s.book.cases m ≡ numbered_case (state_after_decision s decision answer).book.cases m
decision_case s what decision answer m named is other = grind (arith, deed_case)

-- a deed that changes neither the policy nor a case leaves the book
deed_book : (s : State) (what : Ask) (given : Deed) (answer : Reply) → IsNamed what given → is_edited answer ≡ false →
    is_some (changed_case what answer) ≡ false →
    s.book ≡ (state_after_deed s given answer).book
deed_book s what given answer named edited other = grind (arith, no_case)

decision_book : (s : State) (what : Ask) (decision : Result Deed Denial) (answer : Reply) → HoldsOf (IsNamed what) decision → is_edited answer ≡ false →
    is_some (changed_case what answer) ≡ false → s.book ≡ (state_after_decision s decision answer).book
decision_book s what decision answer named edited other = grind (arith, deed_book)

same_book : (s : State) (e : Entry) → changes_any e ≡ false → s.book ≡ (state_after_step s e.ask e.reply).book
same_book s e other =
    let both = or_false (is_edited e.reply) (is_some (changed_case e.ask e.reply)) other in
    decision_book s e.ask (decision_of s.book e.ask) e.reply (decision_named s.book e.ask) both.0 both.1

-- a step that does not count leaves what a verdict rests on
pub step_same : (s : State) (e : Entry) (what : Ask) → IsStep s e.ask e.reply → counts_for e what ≡ false → SameFor what s (state_after_step s e.ask e.reply)
step_same s e what is other = grind (arith, or_false, decision_case, decision_named, same_book)

-- ---- histories

-- and so does an entry of a legal history
pub entry_same : (start : State) (rounds : ℕ) (earlier : List Entry) (e : Entry) (what : Ask) → IsRightAfter start rounds earlier e →
    counts_for e what ≡ false →
    SameFor what (state_after start earlier) (state_after start (earlier ++ e ∷ []))
entry_same start rounds earlier e what right other = grind (arith, after_more, step_same, again_stays, same_here)

no_first : (b : Bool) (n : ℕ) → (if b then 1 else 0) + n ≡ 0 → (b ≡ false) × (n ≡ 0)
no_first b n none = grind arith

-- and so do several of which none counts
pub entries_same : (start : State) (rounds : ℕ) (earlier entries : List Entry) (what : Ask) → EachAfter (IsRightAfter start rounds) earlier entries →
    counted what entries ≡ 0 →
    SameFor what (state_after start earlier) (state_after (state_after start earlier) entries)
entries_same start rounds earlier [] what legal none = same_here what (state_after start earlier)
entries_same start rounds earlier (e ∷ es) what legal none =
    let s = state_after start earlier in
    let next = state_after_step s e.ask e.reply in
    let both = no_first (counts_for e what) (counted what es) none in
    same_then what s next (state_after next es)
    (subst (SameFor what s) (after_more start earlier e) (entry_same start rounds earlier e what legal.0 both.0))
    (subst (λ t. SameFor what t (state_after t es)) (after_more start earlier e) (entries_same start rounds (earlier ++ e ∷ []) es what legal.1 both.1))

-- ---- verdicts

-- where what it rests on is the same, a verdict that was right is right
pub right_stays : (what : Ask) (s t : State) (v : Verdict) → SameFor what s t → IsRight s.book what v → IsRight t.book what v
right_stays (ask.Request (request.OpenCase flow)) s t v same is =
    let p = t.book.policy in
    right_same p s.book.cases t.book.cases s.book.ever t.book.ever (ask.Request (request.OpenCase flow)) v
    (same_opening p s.book.cases t.book.cases s.book.ever t.book.ever flow)
    (inl (opening_no_change (with_cases p s.book.cases s.book.ever) flow))
    (subst (λ q. IsRight (with_cases q s.book.cases s.book.ever) (ask.Request (request.OpenCase flow)) v) same is)
right_stays (ask.Request (request.Claim n step user)) s t v same is =
    let p = t.book.policy in
    right_same p s.book.cases t.book.cases s.book.ever t.book.ever (ask.Request (request.Claim n step user)) v
    (same_claim p s.book.cases t.book.cases s.book.ever t.book.ever n step user same.1)
    (inl (claim_no_change (with_cases p s.book.cases s.book.ever) n step user))
    (subst (λ q. IsRight (with_cases q s.book.cases s.book.ever) (ask.Request (request.Claim n step user)) v) same.0 is)
right_stays what s t v same is = grind arith

-- a fresh verdict that was right is right
pub fresh_right : (start : State) (rounds n : ℕ) (entries : List Entry) (what : Ask) (v : Verdict) → IsLegal start rounds entries → IsFresh entries n what →
    IsRight (state_after start (take n entries)).book what v → IsRight (state_after start entries).book what v
fresh_right start rounds n entries what v legal fresh is =
    let front = take n entries in
    let back = drop n entries in
    let whole = sym (after_all start front back) ∙ ap (state_after start) (take-append-drop n entries) in
    let same = entries_same start rounds front back what (each_from (IsRightAfter start rounds) n entries legal) fresh in
    right_stays what (state_after start front) (state_after start entries) v (subst (SameFor what (state_after start front)) whole same) is
