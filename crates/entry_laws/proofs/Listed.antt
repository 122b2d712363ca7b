-- What views over the open cases list stands for something, and nests little.
use Rattle.entry_laws.proofs.Common.{◌≡◌, ℕ, zero, suc, ◌+◌, ◌<◌, ◌≤◌, inl, inr, List, [], ◌∷◌, ◌++◌, length, map, refl, sym, subst, arith, All, items_depth}
use Rattle.entry_laws.proofs.Common.{unsigned, items_of, PolicyShape, WorkItem, Numbered, State, open_cases, IsSoundState, AreStranded, AreThose, IsWorkOf}
use Rattle.entry_laws.proofs.Common.{steps_from, steps_of, work_data, IsCase, IsWorkItem, flows_of}
use Rattle.std.proofs.lemmas.List.Elements.{All-nil}
use Rattle.serde_json.specs.Data.{number}
use Rattle.wf_board.specs.Views.{Place, item_of}
use Rattle.entry_laws.proofs.Numbers.{AreSerial, EachOf, IsOpenIn, open_found}

-- what holds of the names of all holds of those that are listed
those_hold : {A B : Type 0} (In Out : A → Type 0) (name : A → B) (P : B → Type 0) (xs : List A) (names : List B) → EachOf (λ x. P (name x)) xs
    → AreThose In Out name xs names → All P names
those_hold In Out name P [] names each are = subst (All P) (sym are) (All-nil P)
those_hold In Out name P (x ∷ xs) names each (inl here) = grind (arith, (those_hold In Out name P xs here.1.0 each.1 here.1.1.1))
those_hold In Out name P (x ∷ xs) names each (inr later) = those_hold In Out name P xs names each.1 later.1

each_so : {A : Type 0} (P Q : A → Type 0) (xs : List A) → ((x : A) → P x → Q x) → EachOf P xs → EachOf Q xs
each_so P Q [] so each = tt
each_so P Q (x ∷ xs) so each = (so x each.0, each_so P Q xs so each.1)

each_both : {A : Type 0} (P : A → Type 0) (xs ys : List A) → EachOf P xs → EachOf P ys → EachOf P (xs ++ ys)
each_both P [] ys first later = later
each_both P (x ∷ xs) ys first later = (first.0, each_both P xs ys first.1 later)

-- ---- work lists

some_steps : (P : Place → Type 0) (e : Numbered) (more t : ℕ) → ((i : ℕ) → i < t + more → P (record { of = e; step = i })) → EachOf P (steps_from e more t)
some_steps P e zero t each = tt
some_steps P e (suc more) t each = (each t (omega arith), some_steps P e more (t + 1) (λ i below. each i (omega (arith, below))))

all_steps : (P : Place → Type 0) (es : List Numbered) → EachOf (λ e. (i : ℕ) → i < length e.case.states → P (record { of = e; step = i })) es →
    EachOf P (steps_of es)
all_steps P [] each = tt
all_steps P (e ∷ es) each =
    each_both P (steps_from e (length e.case.states) 0) (steps_of es) (some_steps P e (length e.case.states) 0 (λ i below. each.0 i (omega (arith, below))))
    (all_steps P es each.1)

number_stands : (s : State) (e : Numbered) → AreSerial s.book → IsOpenIn s.book.cases e → IsCase e.number
number_stands s e are known = grind arith

item_stands : (s : State) (e : Numbered) (i : ℕ) → IsSoundState s → AreSerial s.book → IsOpenIn s.book.cases e → i < length e.case.states
    → IsWorkItem s.book.policy (flows_of s) (item_of (record { of = e; step = i }))
item_stands s e i sound are known below = grind arith

pub work_stands : (s : State) (u : ℕ) (items : List WorkItem) → IsSoundState s → AreSerial s.book → IsWorkOf s.book u items →
    All (IsWorkItem s.book.policy (flows_of s)) items
work_stands s u items sound are is =
    let P = IsWorkItem s.book.policy (flows_of s) in
    let es = open_cases s.book.cases in
    those_hold _ _ item_of P (steps_of es) items
    (all_steps (λ x. P (item_of x)) es
    (each_so (IsOpenIn s.book.cases) _ es (λ e known i below. item_stands s e i sound are known below) (open_found s.book are))) is

pub work_nests : (p : PolicyShape) (items : List WorkItem) → items_depth (items_of (map (work_data p) items)) ≤ 1
work_nests p [] = omega arith
work_nests p (i ∷ items) = let rest = work_nests p items in omega (arith, rest)

-- ---- what an edit would strand

pub stranded_stand : (s : State) (pol : PolicyShape) (numbers : List ℕ) → AreSerial s.book → AreStranded pol (open_cases s.book.cases) numbers →
    All IsCase numbers
stranded_stand s pol numbers are is =
    let es = open_cases s.book.cases in
    those_hold _ _ (λ e. e.number) IsCase es numbers (each_so (IsOpenIn s.book.cases) _ es (λ e known. number_stands s e are known) (open_found s.book are)) is

pub numbers_flat : (cases : List ℕ) → items_depth (items_of (map (λ c. number (unsigned c)) cases)) ≡ 0
numbers_flat [] = refl
numbers_flat (c ∷ cases) = let rest = numbers_flat cases in omega (arith, rest)
