-- Lists that are read back from what they are written as.
use Rattle.std.proofs.Common.{◌≡◌, ℕ, zero, suc, ◌+◌, ◌<◌, ◌≤◌, Bool, true, false, List, [], ◌∷◌, ◌++◌, length, map, take, refl, sym, ap, ◌∙◌, append_assoc}
use Rattle.std.proofs.Common.{arith, Result, Ok, Err, slice_get, slice_index_or, Some, if◌then◌else◌}
use Rattle.policy_reader.proofs.Prints.{list_any, append-nil, map-append, length-append, take_more, slice_get-get_or, or_left, or_right, eq_above, le_yes, Data}
use Rattle.policy_reader.proofs.Prints.{string, items_of, ◌>>=◌, each, PolicyPart, items, among, name_at, chosen, is_name, place_of, AreNames}
use Rattle.std.specs.List.{IsDistinct}
use Rattle.policy_reader.specs.Parts.{number_in, at_least_one, at_most}

-- a list is read back: what was read so far is told by the items before the next
module _ {X S D F : Type 0} (read : S → D → Result S F) (write : X → D) (state : List X → S) (whole : List X)
    (step : (before : List X) (x : X) (after : List X) → whole ≡ before ++ x ∷ after → read (state before) (write x) ≡ Ok (state (before ++ x ∷ []))) where
  rest_back : (before after : List X) → whole ≡ before ++ after → each read (state before) (map write after) ≡ Ok (state whole)
  rest_back before [] e = ap (λ xs. Ok (state xs)) (sym (e ∙ append-nil before))
  rest_back before (x ∷ after) e = rw (step before x after e) (rest_back (before ++ x ∷ []) after (e ∙ sym (append_assoc before (x ∷ []) after)))

  pub list_back : each read (state []) (map write whole) ≡ Ok (state whole)
  list_back = rest_back [] whole refl

-- the numbers below n
abbrev pub upto : ℕ → List ℕ
upto n = chosen n (λ _. true)

-- reading one item more
each_push : {S D F : Type 0} (read : S → D → Result S F) (s : S) (xs : List D) (y : D) →
    each read s (xs ++ y ∷ []) ≡ (each read s xs >>= (λ t. each read t (y ∷ [])))
each_push read s [] y = refl
each_push read s (x ∷ xs) y =
    elim (read s x) as (λ r. (r >>= (λ t. each read t (xs ++ y ∷ []))) ≡ ((r >>= (λ t. each read t xs)) >>= (λ t. each read t (y ∷ [])))) [
      | Ok t ↦ each_push read t xs y
      | Err f ↦ refl
    ]

-- the same of what is written by the numbers that pass a test
module _ {S D F : Type 0} (read : S → D → Result S F) (write : ℕ → D) (state : ℕ → S) (test : ℕ → Bool) (bound : ℕ)
    (step : (n : ℕ) → n < bound → test n ≡ true → read (state n) (write n) ≡ Ok (state (suc n)))
    (skip : (n : ℕ) → n < bound → test n ≡ false → state n ≡ state (suc n)) where
  pub chosen_back : (n : ℕ) → n ≤ bound → each read (state 0) (map write (chosen n test)) ≡ Ok (state n)
  chosen_back zero le = refl
  chosen_back (suc n) le =
      let before = chosen_back n (omega (arith, le)) in
      elim (test n) as (λ b. test n ≡ b → each read (state 0) (map write (if b then chosen n test ++ n ∷ [] else chosen n test)) ≡ Ok (state (suc n))) [
        | true ↦ λ e. ap (each read (state 0)) (map-append write (chosen n test) (n ∷ [])) ∙ each_push read (state 0) (map write (chosen n test)) (write n)
            ∙ ap (λ r. r >>= (λ t. each read t (write n ∷ []))) before ∙ ap (λ r. r >>= (λ t. Ok t)) (step n (omega (arith, le)) e)
        | false ↦ λ e. before ∙ ap Ok (skip n (omega (arith, le)) e)
      ] refl

-- the same of what is written by all numbers
pub count_back : {S D F : Type 0} (read : S → D → Result S F) (write : ℕ → D) (state : ℕ → S) (bound : ℕ) →
    ((n : ℕ) → n < bound → read (state n) (write n) ≡ Ok (state (suc n)))
    → each read (state 0) (map write (upto bound)) ≡ Ok (state bound)
count_back read write state bound step = chosen_back read write state (λ _. true) bound (λ n lt e. step n lt) (λ n lt e. cc) bound (omega arith)

-- ---- lists

pub upto_length : (n : ℕ) → length (upto n) ≡ n
upto_length zero = refl
upto_length (suc n) = omega (arith, length-append (upto n) (n ∷ []), upto_length n)

first_number : {Y : Type 0} (n : ℕ) (f : ℕ → Y) → map f (upto (suc n)) ≡ f 0 ∷ map (λ i. f (suc i)) (upto n)
first_number zero f = refl
first_number (suc n) f =
    map-append f (upto (suc n)) (suc n ∷ []) ∙ ap (λ ys. ys ++ f (suc n) ∷ []) (first_number n f) ∙
    ap (λ ys. f 0 ∷ ys) (sym (map-append (λ i. f (suc i)) (upto n) (n ∷ [])))

-- what is written by numbers of a list's items
pub upto_map : {X Y : Type 0} (xs : List X) (f : ℕ → Y) (g : X → Y) → ((i : ℕ) (x : X) → slice_get xs i ≡ Some x → f i ≡ g x) →
    map f (upto (length xs)) ≡ map g xs
upto_map [] f g h = refl
upto_map (x ∷ xs) f g h = let rest = upto_map xs (λ i. f (suc i)) g (λ i y e. h (suc i) y e) in first_number (length xs) f ∙ (λ i. h 0 x refl i ∷ rest i)

pub take_next : {X : Type 0} (xs : List X) (n : ℕ) (d : X) → n < length xs → take n xs ++ slice_index_or xs n d ∷ [] ≡ take (suc n) xs
take_next xs n d lt = let one : n + 1 ≡ suc n = omega arith in sym (take_more xs n d lt) ∙ ap (λ k. take k xs) one

-- an item in the middle is found, and where all differ it is none of those before it
pub middle : {X : Type 0} (same : X → X → Bool) (before : List X) (x : X) (after : List X) → same x x ≡ true → list_any (same x) (before ++ x ∷ after) ≡ true
middle same [] x after e = or_left (same x x) _ e
middle same (y ∷ before) x after e = or_right (same x y) _ (middle same before x after e)

pub new_middle : {X : Type 0} (same : X → X → Bool) → ((x y : X) → same x y ≡ same y x) → (before : List X) (x : X) (after : List X) →
    IsDistinct same (before ++ x ∷ after) → list_any (same x) before ≡ false
unfolding IsDistinct
new_middle same flips [] x after h = refl
new_middle same flips (y ∷ before) x after h = rw (flips x y, among (λ z. same y z ≡ false) before x after h.0) (new_middle same flips before x after h.1)

pub got_middle : {X : Type 0} (before : List X) (x : X) (after : List X) → slice_get (before ++ x ∷ after) (length before) ≡ Some x
got_middle [] x after = refl
got_middle (y ∷ before) x after = got_middle before x after

pub items_back : (ds : List Data) → items (items_of ds) ≡ ds
items_back [] = refl
items_back (d ∷ ds) = ap (λ es. d ∷ es) (items_back ds)

-- ---- checks and names

pub at_least-ok : (t : PolicyPart) (f n : ℕ) → 0 < n → at_least_one t f n ≡ Ok tt
unfolding at_least_one
at_least-ok t f n lt = rw (eq_above n 0 lt) refl

pub at_most-ok : (t : PolicyPart) (f n m : ℕ) → n ≤ m → at_most t f m n ≡ Ok tt
unfolding at_most
at_most-ok t f n m le = rw (le_yes n m le) refl

abbrev pub text_at : List (List ℕ) → ℕ → Data
text_at names n = string (name_at names n)

pub form_at : (names : List (List ℕ)) (n : ℕ) → AreNames names → n < length names → is_name (name_at names n) ≡ true
form_at names n h lt = h.form n (name_at names n) (slice_get-get_or names n [] lt)

pub place_at : (names : List (List ℕ)) (n : ℕ) → AreNames names → n < length names → place_of names (name_at names n) ≡ Some n
place_at names n h lt = h.alone n (name_at names n) (slice_get-get_or names n [] lt)

-- the name of a number is read as that number
pub number_back : (t : PolicyPart) (f : ℕ) (names : List (List ℕ)) (n : ℕ) → AreNames names → n < length names → number_in t f names (name_at names n) ≡ Ok n
unfolding number_in
number_back t f names n h lt = rw (form_at names n h lt, place_at names n h lt) refl
