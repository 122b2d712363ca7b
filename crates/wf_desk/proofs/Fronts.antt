-- Of each lane the first items are done, of a list of items.
use Rattle.std.proofs.Common.{◌≡◌, ℕ, ◌+◌, ◌<◌, ◌≤◌, inl, inr, false, nat_eq, List, [], ◌∷◌, length, take, if◌then◌else◌, refl, arith}
use Rattle.std.specs.List.{filter}
use Rattle.std.proofs.lemmas.Grind.{common_steps}
use Rattle.basics.proofs.Booleans.{bool_cases}

-- the items of a lane
abbrev pub of_lane : {A : Type 0} → (A → ℕ) → ℕ → List A → List A
of_lane key lane xs = filter (λ x. nat_eq (key x) lane) xs

-- the first of these are those
abbrev pub Begins : {A : Type 0} → List A → List A → Type 0
Begins front whole = take (length front) whole ≡ front

-- without the first item of a lane
abbrev pub without : {A : Type 0} → (A → ℕ) → ℕ → List A → List A
without key lane [] = []
without key lane (x ∷ xs) = if nat_eq (key x) lane then xs else x ∷ without key lane xs

abbrev pub rest_of : {A : Type 0} → List A → List A
rest_of [] = []
rest_of (x ∷ xs) = xs

own_lane : {A : Type 0} (key : A → ℕ) (lane : ℕ) (xs : List A) → of_lane key lane (without key lane xs) ≡ rest_of (of_lane key lane xs)
own_lane key lane [] = refl
own_lane key lane (x ∷ xs) = grind (arith, bool_cases, (own_lane key lane xs))

other_lane : {A : Type 0} (key : A → ℕ) (lane other : ℕ) (xs : List A) → nat_eq other lane ≡ false →
    of_lane key other (without key lane xs) ≡ of_lane key other xs
other_lane key lane other [] differ = refl
other_lane key lane other (x ∷ xs) differ = grind (arith, bool_cases, common_steps, (other_lane key lane other xs differ))

one_less : {A : Type 0} (key : A → ℕ) (lane : ℕ) (xs : List A) → 0 < length (of_lane key lane xs) → length xs ≡ length (without key lane xs) + 1
one_less key lane [] some = omega (arith, some)
one_less key lane (x ∷ xs) some = grind (arith, bool_cases, (one_less key lane xs))

-- what is left to do in a lane
pub record Fronts {A : Type 0} (key : A → ℕ) (done all : List A) : Type 0 where
  pub front : (lane : ℕ) → Begins (of_lane key lane done) (of_lane key lane all)

next_fronts : {A : Type 0} (key : A → ℕ) (x : A) (done all : List A) → Fronts key (x ∷ done) all → Fronts key done (without key (key x) all)
next_fronts key x done all fronts = grind (arith, bool_cases, common_steps, own_lane, other_lane)

-- there is an item for one that is done
has_own : {A : Type 0} (key : A → ℕ) (x : A) (done all : List A) → Fronts key (x ∷ done) all → 0 < length (of_lane key (key x) all)
has_own key x done all fronts = grind arith

-- no more are done than there are
pub fronts_within : {A : Type 0} (key : A → ℕ) (done all : List A) → Fronts key done all → length done ≤ length all
fronts_within key [] all fronts = omega arith
fronts_within key (x ∷ done) all fronts =
    grind (arith, next_fronts, one_less, (fronts_within key done (without key (key x) all) (next_fronts key x done all fronts)))

rest_length : {A : Type 0} (xs : List A) → 0 < length xs → length xs ≡ length (rest_of xs) + 1
rest_length xs some = grind arith

-- where in one lane fewer are done than there are, fewer are done of all
pub fronts_short : {A : Type 0} (key : A → ℕ) (lane : ℕ) (done all : List A) → Fronts key done all →
    length (of_lane key lane done) < length (of_lane key lane all)
    → length done < length all
fronts_short key lane [] [] fronts short = omega (arith, short)
fronts_short key lane [] (y ∷ all) fronts short = omega arith
fronts_short key lane (x ∷ done) all fronts short =
    let has = has_own key x done all fronts in
    let size = one_less key (key x) all has in
    let left : length (of_lane key lane done) < length (of_lane key lane (without key (key x) all)) = elim (bool_cases (nat_eq (key x) lane)) [
      | inl hit ↦ grind (arith, common_steps, rest_length, own_lane)
      | inr miss ↦
          let own : nat_eq lane (key x) ≡ false = grind (arith, common_steps) in
          rw (other_lane key (key x) lane all own) (rw miss at short)
    ] in
    let less = fronts_short key lane done (without key (key x) all) (next_fronts key x done all fronts) left in
    omega arith
