-- No more cases are open than the limit, and a reply lists no more than there can be.
use Rattle.entry_laws.proofs.Common.{◌≡◌, ℕ, zero, suc, ◌+◌, ◌*◌, ◌<◌, ◌≤◌, Bool, true, List, [], ◌∷◌, ◌++◌, length, Result, inl, inr, if◌then◌else◌, refl, ap}
use Rattle.entry_laws.proofs.Common.{arith, length-append, OPEN_CASE_LIMIT, STEP_LIMIT, CaseShape, is_open, Ask, Reply, WorkItem, Denial, PolicyShape, Deed}
use Rattle.entry_laws.proofs.Common.{Numbered, State, open_cases, decision_of, Answers, IsReplyTo, IsStep, state_after_decision, state_after_deed}
use Rattle.entry_laws.proofs.Common.{state_after_step, AreStranded, AreThose, IsWorkOf, steps_from, steps_of, Fares, HoldsOf, flows_of}
use Rattle.std.proofs.lemmas.List.Elements.{filter-append}
use Rattle.case_record.specs.Cases.{finished_case}
use Rattle.wf_board.specs.Laws.States.{with_case_changed}
use Rattle.entry_laws.proofs.Numbers.{EachOf, HasRoom, decided_room, open_found}
use Rattle.entry_laws.proofs.Parts.{case_few}
use Rattle.entry_laws.proofs.Replies.{IsReached}
use Rattle.entry_laws.proofs.Told.{FitsDenial, IsDeedFor, concern, decision_fares}
use Rattle.entry_laws.proofs.Short.{ListsFew}

-- no more cases are open than the limit
abbrev pub HasFewOpen : State → Type 0
HasFewOpen s = length (open_cases s.book.cases) ≤ OPEN_CASE_LIMIT

-- ---- a case that is changed

-- a change opens no case
abbrev OpensNone : (CaseShape → CaseShape) → Type 0
OpensNone change = (c : CaseShape) → is_open (change c) ≡ true → is_open c ≡ true

first_no_more : (a b : Bool) (x y : Numbered) (xs : List Numbered) → (a ≡ true → b ≡ true) →
    length (if a then x ∷ xs else xs) ≤ length (if b then y ∷ xs else xs)
first_no_more a b x y xs opens = grind arith

with_first : (a : Bool) (x : Numbered) (xs ys : List Numbered) → length xs ≤ length ys → length (if a then x ∷ xs else xs) ≤ length (if a then x ∷ ys else ys)
with_first a x xs ys few = grind arith

changed_no_more : (n : ℕ) (change : CaseShape → CaseShape) (es : List Numbered) → OpensNone change →
    length (open_cases (with_case_changed n change es)) ≤ length (open_cases es)
changed_no_more n change [] opens = omega arith
changed_no_more n change (e ∷ es) opens = grind (arith, first_no_more, with_first, (changed_no_more n change es opens))

finished_opens : (t : ℕ) → OpensNone (λ c. finished_case c t)
finished_opens t = grind arith

-- ---- steps

one_more : (cases : List Numbered) (e : Numbered) → length (open_cases cases) < OPEN_CASE_LIMIT → length (open_cases (cases ++ e ∷ [])) ≤ OPEN_CASE_LIMIT
one_more cases e room = grind (arith, filter-append, length-append)

no_more : (s : State) (n : ℕ) (change : CaseShape → CaseShape) → OpensNone change → HasFewOpen s →
    length (open_cases (with_case_changed n change s.book.cases)) ≤ OPEN_CASE_LIMIT
no_more s n change opens few = omega (arith, few, changed_no_more n change s.book.cases opens)

deed_open : (s : State) (given : Deed) (answer : Reply) → HasFewOpen s → HasRoom s.book given → HasFewOpen (state_after_deed s given answer)
deed_open s given answer few room = grind (arith, one_more, no_more, finished_opens)

decision_open : (s : State) (decision : Result Deed Denial) (answer : Reply) → HasFewOpen s → HoldsOf (HasRoom s.book) decision →
    HasFewOpen (state_after_decision s decision answer)
decision_open s decision answer few room = grind (arith, deed_open)

pub step_open : (s : State) (what : Ask) (answer : Reply) → HasFewOpen s → HasFewOpen (state_after_step s what answer)
step_open s what answer few = decision_open s (decision_of s.book what) answer few (decided_room s.book what)

-- ---- lists

those_few : {A B : Type 0} (In Out : A → Type 0) (name : A → B) (xs : List A) (names : List B) → AreThose In Out name xs names → length names ≤ length xs
those_few In Out name [] names are = omega (arith, ap length are)
those_few In Out name (x ∷ xs) names (inl here) = grind (arith, (those_few In Out name xs here.1.0 here.1.1.1))
those_few In Out name (x ∷ xs) names (inr later) = let rest = those_few In Out name xs names later.1 in omega (arith, rest)

steps_count : (e : Numbered) (more t : ℕ) → length (steps_from e more t) ≡ more
steps_count e zero t = refl
steps_count e (suc more) t = ap suc (steps_count e more (t + 1))

places_few : (es : List Numbered) → EachOf (λ e. length e.case.states ≤ STEP_LIMIT) es → length (steps_of es) ≤ length es * STEP_LIMIT
places_few [] each = omega arith
places_few (e ∷ es) each = grind (arith, length-append, steps_count, (places_few es each.1))

each_of : {A : Type 0} (P Q : A → Type 0) (xs : List A) → ((x : A) → P x → Q x) → EachOf P xs → EachOf Q xs
each_of P Q [] so each = tt
each_of P Q (x ∷ xs) so each = (so x each.0, each_of P Q xs so each.1)

work_few : (s : State) (u : ℕ) (items : List WorkItem) → IsReached s → HasFewOpen s → IsWorkOf s.book u items → length items ≤ OPEN_CASE_LIMIT * STEP_LIMIT
work_few s u items reached few is = grind (arith, each_of, case_few, open_found, places_few, those_few)

stranded_few : (s : State) (p : PolicyShape) (numbers : List ℕ) → HasFewOpen s → AreStranded p (open_cases s.book.cases) numbers →
    length numbers ≤ OPEN_CASE_LIMIT
stranded_few s p numbers few is = omega (arith, few, those_few _ _ (λ e. e.number) (open_cases s.book.cases) numbers is)

-- ---- replies

deed_few : (s : State) (given : Deed) (answer : Reply) → IsReached s → HasFewOpen s → IsReplyTo s given answer → ListsFew answer
deed_few s given answer reached few is = grind (arith, work_few, stranded_few)

decided_few : (s : State) (what : Ask) (r : Result Deed Denial) (answer : Reply) → IsReached s → HasFewOpen s →
    Fares (IsDeedFor s what) (FitsDenial s.book.policy (flows_of s) (concern s what)) r → Answers s r answer → ListsFew answer
decided_few s what r answer reached few fares is = grind (arith, deed_few)

-- the reply of a step lists few
pub step_few : (s : State) (what : Ask) (answer : Reply) → IsReached s → HasFewOpen s → IsStep s what answer → ListsFew answer
step_few s what answer reached few step = decided_few s what (decision_of s.book what) answer reached few (decision_fares s what reached.sound) step
