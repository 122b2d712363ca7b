-- The names of a trial are of a name's form, and differ where their numbers do.
use Rattle.std.proofs.Common.{◌≡◌, ℕ, zero, suc, ◌+◌, ◌<◌, ◌/◌, ◌%◌, true, false, List, [], ◌∷◌, ◌++◌, map, IsTrue, nat_eq, is_some, length, codes, refl}
use Rattle.std.proofs.Common.{arith}
use Rattle.std.specs.List.{range_with_len}
use Rattle.std.specs.Cmp.Lexicographic.{pointwise}
use Rattle.std.proofs.lemmas.Bool.Decides.{nat_tests}
use Rattle.std.proofs.lemmas.List.FromFn.{length-map-range_with_len, map-range_with_len_more}
use Rattle.wf_names.specs.Names.{is_letter, is_name, is_name_byte}
use Rattle.wf_names.specs.Table.{place_of}
use Rattle.trial_command.specs.Named.{admin_name, digit, two_digits, user_name, step_name, role_name}

digit_byte : (n : ℕ) → n < 10 → is_name_byte (48 + n) ≡ true
digit_byte n h = grind (arith, nat_tests)

pub numbered_form : (letter n : ℕ) → is_letter letter ≡ true → n < 100 → IsTrue (is_name (letter ∷ (48 + n / 10) ∷ (48 + n % 10) ∷ []))
unfolding is_name
numbered_form letter n is small = grind (arith, digit_byte)

pub r_digit : (r : ℕ) → r < 10 → IsTrue (is_name (114 ∷ (48 + r) ∷ []))
unfolding is_name
r_digit r small = let ones = digit_byte r small in grind arith

pub chief_form : IsTrue (is_name (codes "chief"))
unfolding is_name
chief_form = refl

pub buy_form : IsTrue (is_name (codes "buy"))
unfolding is_name
buy_form = refl

pub apart_form : IsTrue (is_name (codes "apart"))
unfolding is_name
apart_form = refl

pub peer_form : IsTrue (is_name (codes "peer"))
unfolding is_name
peer_form = refl

two_differ : (m n : ℕ) → n < m → pointwise nat_eq (two_digits m) (two_digits n) ≡ false
two_differ m n lt = grind (arith, nat_tests)

-- a name that differs from each of these is not among them
not_among : (f : ℕ → List ℕ) (name : List ℕ) (a n : ℕ) → ((k : ℕ) → k < a + n → pointwise nat_eq name (f k) ≡ false) →
    is_some (place_of (map f (range_with_len a n)) name) ≡ false
not_among f name a zero differ = refl
not_among f name a (suc n) differ = grind (arith, (not_among f name (a + 1) n (λ k lt. differ k (omega arith))))

pub user_fresh : (u : ℕ) → is_some (place_of (map user_name (range_with_len 0 u)) (user_name u)) ≡ false
unfolding user_name
user_fresh u = not_among user_name (user_name u) 0 u (λ k lt. two_differ u k (omega arith))

pub users_count : (u : ℕ) → length (map user_name (range_with_len 0 u)) ≡ u
users_count u = length-map-range_with_len user_name 0 u

pub users_more : (u : ℕ) → map user_name (range_with_len 0 (u + 1)) ≡ map user_name (range_with_len 0 u) ++ user_name u ∷ []
users_more u = map-range_with_len_more user_name 0 u u (omega arith)

pub step_fresh : (s : ℕ) → is_some (place_of (map step_name (range_with_len 0 s)) (step_name s)) ≡ false
unfolding step_name
step_fresh s = not_among step_name (step_name s) 0 s (λ k lt. two_differ s k (omega arith))

pub steps_count : (s : ℕ) → length (map step_name (range_with_len 0 s)) ≡ s
steps_count s = length-map-range_with_len step_name 0 s

pub steps_more : (s : ℕ) → map step_name (range_with_len 0 (s + 1)) ≡ map step_name (range_with_len 0 s) ++ step_name s ∷ []
steps_more s = map-range_with_len_more step_name 0 s s (omega arith)

one_differs : (m n : ℕ) → n < m → pointwise nat_eq (digit m ∷ []) (digit n ∷ []) ≡ false
one_differs m n lt = grind (arith, nat_tests)

pub role_fresh : (r : ℕ) → is_some (place_of (map role_name (range_with_len 0 r)) (role_name r)) ≡ false
unfolding role_name
role_fresh r = not_among role_name (role_name r) 0 r (λ k lt. one_differs r k (omega arith))

pub roles_count : (r : ℕ) → length (map role_name (range_with_len 0 r)) ≡ r
roles_count r = length-map-range_with_len role_name 0 r

pub roles_more : (r : ℕ) → map role_name (range_with_len 0 (r + 1)) ≡ map role_name (range_with_len 0 r) ++ role_name r ∷ []
roles_more r = map-range_with_len_more role_name 0 r r (omega arith)

chief_new : is_some (place_of (map role_name (range_with_len 0 5)) admin_name) ≡ false
unfolding role_name
chief_new = refl

pub chief_fresh : (names : List (List ℕ)) (name : List ℕ) → names ≡ map role_name (range_with_len 0 5) → name ≡ admin_name →
    is_some (place_of names name) ≡ false
chief_fresh names name first last = grind (arith, chief_new)

-- what a table of the names of users rests on
pub ruleset user_names = (user_fresh, users_count, users_more)

-- what a table of the names of steps rests on
pub ruleset step_names = (step_fresh, steps_count, steps_more)

-- what a table of the names of roles rests on
pub ruleset role_names = (role_fresh, roles_count, roles_more, chief_form, chief_fresh)
