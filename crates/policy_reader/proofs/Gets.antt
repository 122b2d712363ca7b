-- What is known of what a reading gives.
use Rattle.std.proofs.Common.{◌≡◌, ℕ, ◌+◌, ◌<◌, ◌≤◌, Bool, true, List, [], ◌∷◌, ◌++◌, length, Ok, Err, subst, arith, length-append}
use Rattle.std.specs.Prelude.{Option, Some, IsTrue}
use Rattle.std.specs.FinSet as set
use Rattle.std.proofs.lemmas.List.Elements.{All-push}
use Rattle.std.proofs.lemmas.List.Quantifiers.{position-Some}
use Rattle.basics.proofs.Booleans.{le_back}
use Rattle.wf_names.specs.Names.{is_name}
use Rattle.basics.specs.Laws.Pairs.{Pairs}
use Rattle.basics.specs.PairLaws.{all_insert}
use Rattle.toml.specs.Data.{Data, Members}
use Rattle.basics.specs.Laws.Reading.{◌>>=◌, check, each, or_fault}
use Rattle.policy_reader.specs.declared.fault.PolicyFault.{PolicyFault}
use Rattle.policy_reader.specs.declared.fault.PolicyPart.{PolicyPart}
use Rattle.policy_reader.specs.declared.fault.PolicyKind.TheVariants as kind
use Rattle.policy_reader.specs.Bounds.{AreBelow}
use Rattle.policy_reader.specs.Faults.{Reading, fault}
use Rattle.policy_reader.specs.File.{AreOfForm}
use Rattle.policy_reader.specs.Parts.{at_least_one, at_most, count_in, entries, entries_at, first_said, items, items_at, name_in, named_in}
use Rattle.policy_reader.specs.Parts.{named_pair_in, next_name, next_pair, number_in, numbers_in, once, text_in, text_name_in}

-- P of what a reading gives, where it gives something
abbrev pub Gets : {A : Type 0} → (A → Type 0) → Reading A → Type 0
Gets P (Ok x) = P x
Gets P (Err fault) = Unit {0}

pub got : {A : Type 0} (P : A → Type 0) (r : Reading A) (x : A) → Gets P r → r ≡ Ok x → P x
got P r x h e = subst (λ s. Gets P s) e h

pub and_so : {A B : Type 0} (P : A → Type 0) (Q : B → Type 0) (r : Reading A) (f : A → Reading B) → Gets P r → ((x : A) → P x → Gets Q (f x)) → Gets Q (r >>= f)
and_so P Q r f h k = grind arith

pub after : {A B : Type 0} (Q : B → Type 0) (r : Reading A) (f : A → Reading B) → ((x : A) → Gets Q (f x)) → Gets Q (r >>= f)
after Q r f k = grind arith

pub weaker : {A : Type 0} (P Q : A → Type 0) (r : Reading A) → Gets P r → ((x : A) → P x → Q x) → Gets Q r
weaker P Q r h k = grind arith

-- an invariant that sees what is left to read
pub each_gets : {S D : Type 0} (P : S → List D → Type 0) (read : S → D → Reading S)
    → ((s : S) (d : D) (ds : List D) → P s (d ∷ ds) → Gets (λ t. P t ds) (read s d))
    → (s : S) (ds : List D) → P s ds → Gets (λ t. P t []) (each read s ds)
each_gets P read h s [] p = p
each_gets P read h s (d ∷ ds) p = and_so (λ t. P t ds) (λ t. P t []) (read s d) (λ t. each read t ds) (h s d ds p) (λ t q. each_gets P read h t ds q)

pub checked : (b : Bool) (x : PolicyFault) → Gets (λ _. b ≡ true) (check b x)
checked b x = grind arith

pub found : {A : Type 0} (o : Option A) (x : PolicyFault) → Gets (λ a. o ≡ Some a) (or_fault o x)
found o x = grind arith

-- ---- counts

pub few : (t : PolicyPart) (i limit count : ℕ) → Gets (λ _. count ≤ limit) (at_most t i limit count)
unfolding at_most
few t i limit count = grind (arith, weaker, checked, le_back)

counted : (t : PolicyPart) (i limit count : ℕ) → Gets (λ _. count ≤ limit) (count_in t i limit count)
unfolding count_in
counted t i limit count = after (λ _. count ≤ limit) (at_least_one t i count) (λ _. at_most t i limit count) (λ _. few t i limit count)

pub few_items : (t : PolicyPart) (i limit : ℕ) (key : List ℕ) (ms : Members) → Gets (λ ds. length (items ds) ≤ limit) (items_at t i limit key ms)
unfolding items_at
few_items t i limit key ms = grind (arith, after, and_so, counted)

pub few_entries : (t : PolicyPart) (i limit : ℕ) (key : List ℕ) (ms : Members) → Gets (λ es. length (entries es) ≤ limit) (entries_at t i limit key ms)
unfolding entries_at
few_entries t i limit key ms = grind (arith, after, and_so, counted)

-- ---- names

pub formed : (t : PolicyPart) (i : ℕ) (text : List ℕ) → Gets (λ _. IsTrue (is_name text)) (name_in t i text)
unfolding name_in
formed t i text = checked (is_name text) (fault kind.Name t i)

named : (t : PolicyPart) (i : ℕ) (d : Data) → Gets (λ text. IsTrue (is_name text)) (text_name_in t i d)
unfolding text_name_in
named t i d = grind (arith, after, and_so, formed)

-- names of a name's form, and so many more at most
abbrev pub AreFew : ℕ → List (List ℕ) → ℕ → Type 0
AreFew limit names left = AreOfForm names × (length names + left ≤ limit)

pub push_form : (names : List (List ℕ)) (name : List ℕ) → AreOfForm names → IsTrue (is_name name) → AreOfForm (names ++ name ∷ [])
push_form names name h here = All-push (λ n. IsTrue (is_name n)) names name h here

pub next_few : (t : PolicyPart) (i limit left : ℕ) (names : List (List ℕ)) (d : Data) → AreFew limit names (left + 1)
    → Gets (λ out. AreFew limit out left) (next_name t i names d)
unfolding next_name
next_few t i limit left names d h = grind (arith, and_so, named, after, length-append, push_form)

-- ---- numbers of names

pub numbered : (t : PolicyPart) (i : ℕ) (names : List (List ℕ)) (text : List ℕ) → Gets (λ n. n < length names) (number_in t i names text)
unfolding number_in
numbered t i names text = grind (arith, after, weaker, found, position-Some)

pub named_number : (t : PolicyPart) (i : ℕ) (names : List (List ℕ)) (d : Data) → Gets (λ n. n < length names) (named_in t i names d)
unfolding named_in
named_number t i names d = after (λ n. n < length names) (text_in t i d) (λ text. number_in t i names text) (λ text. numbered t i names text)

abbrev AreBoth : ℕ → ℕ × ℕ → Type 0
AreBoth n pair = (pair.0 < n) × (pair.1 < n)

both_numbered : (t : PolicyPart) (i : ℕ) (names : List (List ℕ)) (texts : List ℕ × List ℕ) → Gets (AreBoth (length names)) (numbers_in t i names texts)
unfolding numbers_in
both_numbered t i names texts = grind (arith, and_so, numbered)

named_pair : (t : PolicyPart) (i : ℕ) (names : List (List ℕ)) (d : Data) → Gets (AreBoth (length names)) (named_pair_in t i names d)
unfolding named_pair_in
named_pair t i names d = grind (arith, after, both_numbered)

pub next_below : (t : PolicyPart) (i : ℕ) (names : List (List ℕ)) (pairs : Pairs) (d : Data) → AreBelow (length names) pairs
    → Gets (AreBelow (length names)) (next_pair t i names pairs d)
unfolding next_pair
next_below t i names pairs d h =
    and_so (AreBoth (length names)) (AreBelow (length names)) (named_pair_in t i names d) _ (named_pair t i names d)
    (λ pair here. after (AreBelow (length names)) (once t i (first_said d) (set.contains pairs pair)) (λ _. Ok (set.insert pairs pair))
    (λ _. all_insert (λ a b. (a < length names) × (b < length names)) pairs pair.0 pair.1 here h))
