-- The first part of a list that is split.
use Rattle.std.proofs.Common.{◌≡◌, refl, sym, ap, ◌∙◌, ℕ, zero, suc, ◌-◌, ◌<◌, Bool, true, false, List, [], ◌∷◌, length, take, drop, get_or, arith}
use Rattle.std.specs.List.{slice_split, onto_first}
use Rattle.std.proofs.lemmas.List.Splits.{slice_split-cons_yes, slice_split-cons_no}
use Rattle.std.proofs.lemmas.List.{take_rest}
use Rattle.memchr.specs.Find.{NoneBefore, Nowhere, Passes}
use Rattle.basics.proofs.Booleans.{not_true}

first_split : (p : ℕ → Bool) (text : List ℕ) (n : ℕ) → n < length text → p (get_or text n 0) ≡ true → ((k : ℕ) → k < n → p (get_or text k 0) ≡ false) →
    slice_split p text ≡ take n text ∷ slice_split p (drop (suc n) text)
first_split p [] n below here before = absurd (omega (arith, below))
first_split p (x ∷ xs) zero below here before = slice_split-cons_yes p x xs here
first_split p (x ∷ xs) (suc n) below here before =
    slice_split-cons_no p x xs (before 0 (omega arith)) ∙
    ap (onto_first x) (first_split p xs n (omega (arith, below)) here (λ k less. before (suc k) (omega (arith, less))))

no_split : (p : ℕ → Bool) (text : List ℕ) → ((k : ℕ) → k < length text → p (get_or text k 0) ≡ false) → slice_split p text ≡ text ∷ []
no_split p [] none = refl
no_split p (x ∷ xs) none = slice_split-cons_no p x xs (none 0 (omega arith)) ∙ ap (onto_first x) (no_split p xs (λ k less. none (suc k) (omega (arith, less))))

first_cut : (p : ℕ → Bool) (text : List ℕ) (n : ℕ) → NoneBefore (Passes p text) 0 (length text) n × Passes p text n →
    slice_split p text ≡ take n text ∷ slice_split p (drop (suc n) text)
first_cut p text n found = first_split p text n found.0.high found.1 (λ k less. not_true (p (get_or text k 0)) (λ one. found.0.before k (omega arith) less one))

pub no_cut : (p : ℕ → Bool) (text : List ℕ) → Nowhere (Passes p text) 0 (length text) → slice_split p text ≡ text ∷ []
no_cut p text none = no_split p text (λ k less. not_true (p (get_or text k 0)) (λ one. none k (omega arith) less one))

one_behind : (xs : List ℕ) (n : ℕ) → drop 1 (drop n xs) ≡ drop (suc n) xs
one_behind [] zero = refl
one_behind [] (suc n) = refl
one_behind (x ∷ xs) zero = refl
one_behind (x ∷ xs) (suc n) = one_behind xs n

pub parted : (p : ℕ → Bool) (text front back : List ℕ) (n : ℕ) → NoneBefore (Passes p text) 0 (length text) n × Passes p text n → front ≡ take n text →
    back ≡ drop n text →
    slice_split p text ≡ front ∷ slice_split p (take (length back - 1) (drop 1 back))
parted p text front back n found is_front is_back =
    first_cut p text n found
    ∙ ap (λ f. f ∷ slice_split p (drop (suc n) text)) (sym is_front)
    ∙ ap (λ r. front ∷ slice_split p r) (sym (take_rest back 1 ∙ ap (drop 1) is_back ∙ one_behind text n))
