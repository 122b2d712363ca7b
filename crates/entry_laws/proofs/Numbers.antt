-- Cases are numbered in the order in which they were opened, and no more are ever opened than the limit.
use Rattle.entry_laws.proofs.Common.{◌≡◌, ℕ, ◌+◌, ◌<◌, ◌≤◌, true, false, List, [], ◌∷◌, length, None, Some, Result, arith, OPEN_CASE_LIMIT, is_open, Ask, Reply}
use Rattle.entry_laws.proofs.Common.{Denial, Deed, Numbered, State, numbered_case, open_cases, cause_full, decision_of, state_after_decision, state_after_deed}
use Rattle.entry_laws.proofs.Common.{state_after_step, HoldsOf}
use Rattle.std.proofs.lemmas.List.Sums.{length-filter}
use Rattle.basics.proofs.Booleans.{eq_other, or_false, not_yes}
use Rattle.wf_names.specs.declared.limits.TheConstants.{CASE_LIMIT}
use Rattle.wf_board.specs.declared.deed.Deed.TheVariants as deed
use Rattle.wf_board.specs.Laws.States.{Book, is_full}
use Rattle.wf_board.specs.Laws.Kept.{AreNumberedFrom}
use Rattle.admin_edits.proofs.Keeping.{always}
use Rattle.wf_board.proofs.Numbers.{step_numbered}
use Rattle.wf_board.proofs.Told.{unless_holds, unless_tells}

-- the cases of a book are numbered in order, and no more than the limit were ever opened
pub record AreSerial (b : Book) : Type 0 where
  pub numbers : AreNumberedFrom 0 b.cases
  pub ever : b.ever ≡ length b.cases
  pub within : b.ever ≤ CASE_LIMIT

-- ---- steps

-- a case is opened only where there is room for it
abbrev pub HasRoom : Book → Deed → Type 0
HasRoom b (deed.Open f) = (length (open_cases b.cases) < OPEN_CASE_LIMIT) × (b.ever < CASE_LIMIT)
HasRoom b given = Unit {0}

room_left : (b : Book) → is_full b ≡ false → (length (open_cases b.cases) < OPEN_CASE_LIMIT) × (b.ever < CASE_LIMIT)
room_left b free = grind (arith, or_false, length-filter)

room_of : (b : Book) (given : Deed) → cause_full b given ≡ None → HasRoom b given
room_of b given none = grind (arith, room_left, not_yes, unless_tells)

pub decided_room : (b : Book) (what : Ask) → HoldsOf (HasRoom b) (decision_of b what)
decided_room b what = grind (arith, always, unless_holds, room_of)

deed_within : (s : State) (given : Deed) (answer : Reply) → s.book.ever ≤ CASE_LIMIT → HasRoom s.book given →
    (state_after_deed s given answer).book.ever ≤ CASE_LIMIT
deed_within s given answer few room = grind arith

decision_within : (s : State) (decision : Result Deed Denial) (answer : Reply) → s.book.ever ≤ CASE_LIMIT → HoldsOf (HasRoom s.book) decision →
    (state_after_decision s decision answer).book.ever ≤ CASE_LIMIT
decision_within s decision answer few room = grind (arith, deed_within)

-- a step keeps the numbers
pub step_serial : (s : State) (what : Ask) (answer : Reply) → AreSerial s.book → AreSerial (state_after_step s what answer).book
step_serial s what answer are =
    let numbered = step_numbered s what answer (record { order = are.numbers; next = are.ever }) in
    record {
      numbers = numbered.order;
      ever = numbered.next;
      within = decision_within s (decision_of s.book what) answer are.within (decided_room s.book what);
    }

-- ---- each case stands at its number

-- P holds of each of these
abbrev pub EachOf : {A : Type 0} → (A → Type 0) → List A → Type 0
EachOf P [] = Unit {0}
EachOf P (e ∷ es) = P e × EachOf P es

-- a case of some is found at its number, which is one of those from k on
pub record IsFoundIn (cases : List Numbered) (k : ℕ) (e : Numbered) : Type 0 where
  pub found : numbered_case cases e.number ≡ Some e.case
  pub least : k ≤ e.number
  pub below : e.number < k + length cases

found_first : (k : ℕ) (x : Numbered) (xs : List Numbered) → x.number ≡ k → IsFoundIn (x ∷ xs) k x
found_first k x xs is = grind arith

found_later : (k : ℕ) (x : Numbered) (xs : List Numbered) (e : Numbered) → x.number ≡ k → IsFoundIn xs (k + 1) e → IsFoundIn (x ∷ xs) k e
found_later k x xs e is later = grind (arith, eq_other)

each_later : (k : ℕ) (x : Numbered) (xs es : List Numbered) → x.number ≡ k → EachOf (IsFoundIn xs (k + 1)) es → EachOf (IsFoundIn (x ∷ xs) k) es
each_later k x xs [] is each = tt
each_later k x xs (e ∷ es) is each = (found_later k x xs e is each.0, each_later k x xs es is each.1)

pub each_found : (k : ℕ) (cases : List Numbered) → AreNumberedFrom k cases → EachOf (IsFoundIn cases k) cases
each_found k [] are = tt
each_found k (x ∷ xs) are = (found_first k x xs are.0, each_later k x xs xs are.0 (each_found (k + 1) xs are.1))

-- and so is each that is open
pub record IsOpenIn (cases : List Numbered) (e : Numbered) : Type 0 where
  pub found : numbered_case cases e.number ≡ Some e.case
  pub below : e.number < length cases
  pub live : is_open e.case ≡ true

each_open : (cases es : List Numbered) → EachOf (IsFoundIn cases 0) es → EachOf (IsOpenIn cases) (open_cases es)
each_open cases [] each = tt
each_open cases (e ∷ es) each = grind (arith, (each_open cases es each.1))

pub open_found : (b : Book) → AreSerial b → EachOf (IsOpenIn b.cases) (open_cases b.cases)
open_found b are = each_open b.cases b.cases (each_found 0 b.cases are.numbers)
