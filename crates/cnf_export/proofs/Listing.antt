-- The numbers that pass, one after the other.
use Rattle.std.proofs.Common.{◌≡◌, refl, sym, ap, ◌∙◌, ℕ, zero, suc, ◌+◌, ◌-◌, ◌<◌, ◌≤◌, Bool, true, false, cond, List, [], ◌∷◌, ◌++◌, map, length, drop}
use Rattle.std.proofs.Common.{Option, None, Some, is_some, slice_get, arith, append_assoc}
use Rattle.std.specs.Prelude.{ℤ}
use Rattle.std.specs.List.{flat_map}
use Rattle.std.proofs.lemmas.List.{append-nil}
use Rattle.std.proofs.lemmas.Bool.{false≢true}
use Rattle.cnf_export.specs.Laws.Encodings.{Encoding, clause, numbers, part_clauses, part_items}
use Rattle.cnf_export.specs.Positions.{left_from}
use Rattle.cnf_export.specs.declared.group.Group.{Group}
use Rattle.cnf_export.specs.declared.position.Position.{Position}
use Rattle.policy_book.specs.Laws.Refuting.{passing}
use Rattle.policy_book.proofs.Passing.{passing_at}

pub some_same : {X : Type 0} (x y : X) → Some x ≡ Some y → x ≡ y
some_same {X} x y e = ap (or_else x) e
  where
    or_else : X → Option X → X
    or_else d None = d
    or_else d (Some z) = z

-- numbers that do not pass are passed over
skipped : (test : ℕ → Bool) (d k n : ℕ) → k + d ≤ n → ((w : ℕ) → k ≤ w → w < k + d → test w ≡ false) →
    passing test k (n - k) ≡ passing test (k + d) (n - (k + d))
skipped test zero k n within none = let same : k ≡ k + 0 = omega arith in ap (λ j. passing test j (n - j)) same
skipped test (suc d) k n within none =
    grind (arith, passing_at, (skipped test d (k + 1) n (omega (arith, within)) (λ w low high. none w (omega (arith, low)) (omega (arith, high)))))

-- the next that passes
pub next_passing : (test : ℕ → Bool) (k v n : ℕ) → k ≤ v → v < n → test v ≡ true → ((w : ℕ) → k ≤ w → w < v → test w ≡ false) →
    passing test k (n - k) ≡ v ∷ passing test (v + 1) (n - (v + 1))
next_passing test k v n low below passes none =
    let same : k + (v - k) ≡ v = omega (arith, low) in
    skipped test (v - k) k n (omega (arith, low, below)) (λ w from_on high. none w from_on (omega (arith, high, same)))
    ∙ ap (λ j. passing test j (n - j)) same
    ∙ passing_at test v n below
    ∙ ap (λ b. cond b (v ∷ passing test (v + 1) (n - (v + 1))) (passing test (v + 1) (n - (v + 1)))) passes

-- none passes any more
pub none_passing : (test : ℕ → Bool) (k n : ℕ) → ((w : ℕ) → k ≤ w → test w ≡ false) → passing test k n ≡ []
none_passing test k zero none = refl
none_passing test k (suc n) none = grind (arith, (none_passing test (k + 1) n (λ w low. none w (omega (arith, low)))))

-- tests that agree within the bounds
pub passing_same : (t u : ℕ → Bool) (k n : ℕ) → ((w : ℕ) → k ≤ w → w < k + n → t w ≡ u w) → passing t k n ≡ passing u k n
passing_same t u k zero same = refl
passing_same t u k (suc n) same = grind (arith, (passing_same t u (k + 1) n (λ w low high. same w (omega (arith, low)) (omega (arith, high)))))

-- one more of those who pass is put behind
pub one_added : (g : ℕ → ℤ) (test : ℕ → Bool) (into after : List ℤ) (k v n : ℕ) (l : ℤ) → after ≡ into ++ l ∷ [] → l ≡ g v → k ≤ v → v < n → test v ≡ true →
    ((w : ℕ) → k ≤ w → w < v → test w ≡ false) →
    after ++ map g (passing test (v + 1) (n - (v + 1))) ≡ into ++ map g (passing test k (n - k))
one_added g test into after k v n l is same low below passes none = grind (arith, append_assoc, next_passing)

pub all_added : (g : ℕ → ℤ) (test : ℕ → Bool) (into : List ℤ) (k n : ℕ) → ((w : ℕ) → k ≤ w → test w ≡ false) → into ≡ into ++ map g (passing test k n)
all_added g test into k n none = sym (append-nil into) ∙ ap (λ us. into ++ map g us) (sym (none_passing test k n none))

-- one more is looked at
-- a number that passes is listed, by what it comes to
pub listed_one : {A : Type 0} (list : List ℕ → List A) (one : List A) (test : ℕ → Bool) (into after : List A) (t n : ℕ) →
    ((us : List ℕ) → list (t ∷ us) ≡ one ++ list us) → t < n → test t ≡ true → after ≡ into ++ one →
    after ++ list (passing test (t + 1) (n - (t + 1))) ≡ into ++ list (passing test t (n - t))
listed_one list one test into after t n more below passes added = grind (arith, append_assoc, passing_at)

-- one that does not pass is not
pub listed_none : {A : Type 0} (list : List ℕ → List A) (test : ℕ → Bool) (into after : List A) (t n : ℕ) → t < n → test t ≡ false → after ≡ into →
    after ++ list (passing test (t + 1) (n - (t + 1))) ≡ into ++ list (passing test t (n - t))
listed_none list test into after t n below fails kept = grind (arith, passing_at)

pub numbers_at : (k n : ℕ) → k < n → numbers k (n - k) ≡ k ∷ numbers (k + 1) (n - (k + 1))
numbers_at k n below = let more : n - k ≡ suc (n - (k + 1)) = omega arith in ap (numbers k) more

-- the part of one more number is put behind
pub next_number : {A : Type 0} (f : ℕ → List A) (into after : List A) (k n : ℕ) → k < n → after ≡ into ++ f k →
    after ++ flat_map f (numbers (k + 1) (n - (k + 1))) ≡ into ++ flat_map f (numbers k (n - k))
next_number f into after k n below is = grind (arith, append_assoc, numbers_at)

pub drop_past : {X : Type 0} (n : ℕ) (xs : List X) → length xs ≤ n → drop n xs ≡ []
drop_past zero [] h = refl
drop_past zero (x ∷ xs) h = absurd (omega (arith, h))
drop_past (suc n) [] h = refl
drop_past (suc n) (x ∷ xs) h = drop_past n xs (omega (arith, h))

pub drop_some : {X : Type 0} (xs : List X) (k : ℕ) (x : X) → slice_get xs k ≡ Some x → drop k xs ≡ x ∷ drop (k + 1) xs
drop_some {X} xs k x is = at xs k is ∙ (let next : suc k ≡ k + 1 = omega arith in ap (λ n. x ∷ drop n xs) next)
  where
    at : (ys : List X) (n : ℕ) → slice_get ys n ≡ Some x → drop n ys ≡ x ∷ drop (suc n) ys
    at [] n e = absurd (false≢true (ap is_some e))
    at (y ∷ ys) zero e = ap (λ z. z ∷ ys) (some_same y x e)
    at (y ∷ ys) (suc n) e = at ys n e

-- a part is listed
pub part_listed : (e : Encoding) (g : Group) (p n item : ℕ) (old : List ℕ) (listed : ℕ) (rest : List (List ℤ)) (new : List ℕ) → new ≡ part_items e g p → p < n →
    length old ≤ item →
    map (clause e g p) new ++ (flat_map (part_clauses e g) (numbers (p + 1) (n - (p + 1))) ++ rest) ≡ map (clause e g listed)
    (drop item old) ++ (flat_map (part_clauses e g) (numbers p (n - p)) ++ rest)
part_listed e g p n item old listed rest new is below done = grind (arith, append_assoc, numbers_at, drop_past)

pub nothing_left : (e : Encoding) (groups : List Group) (x : Position) → length x.items ≤ x.item → x.parts ≤ x.part → length groups ≤ x.next_group →
    left_from e groups x ≡ []
nothing_left e groups x items parts all = grind (arith, drop_past)
