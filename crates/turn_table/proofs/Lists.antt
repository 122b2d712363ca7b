-- Beginnings of lists, and the pairs of one number.
use Rattle.std.proofs.Common.{◌≡◌, ◌≢◌, ℕ, ◌≤◌, ◌==◌, eqb, cond, Bool, true, false, List, [], ◌∷◌, ◌++◌, length, drop, nat_lt, sym, refl, ap, ◌∙◌, subst, inl}
use Rattle.std.proofs.Common.{inr, append_assoc, arith, eq-eqb, if◌then◌else◌}
use Rattle.std.proofs.lemmas.List.{append-nil, append_cancel_left}
use Rattle.std.proofs.lemmas.List.Elements.{filter-append}
use Rattle.std.proofs.lemmas.Bool.Decides.{nat_tests}
use Rattle.std.proofs.Math.Seq.{drop-append_seam}
use Rattle.turn_table.specs.Table.{StartsWith, pairs_under, Quiet, OwnPast, GrowsByOne, longer, shorter}

module _ {A : Type 0} where
  left_nil : (xs ys : List A) → xs ++ ys ≡ [] → xs ≡ []
  left_nil [] ys e = refl
  left_nil (x ∷ xs) ys e = cc

  right_nil : (xs ys : List A) → xs ++ ys ≡ [] → ys ≡ []
  right_nil [] ys e = e
  right_nil (x ∷ xs) ys e = cc

  pub begins_self : (xs : List A) → StartsWith xs xs
  begins_self xs = ([], sym (append-nil xs))

  pub begins_trans : (xs ys zs : List A) → StartsWith xs ys → StartsWith ys zs → StartsWith xs zs
  begins_trans xs ys zs a b = (b.0 ++ a.0, a.1 ∙ (ap (λ l. l ++ a.0) b.1 ∙ append_assoc zs b.0 a.0))

  -- of two beginnings of one list, the shorter begins the longer
  fronts : (xs ys r s : List A) → xs ++ r ≡ ys ++ s → length ys ≤ length xs → StartsWith xs ys
  fronts xs [] r s e le = (xs, refl)
  fronts [] (y ∷ ys) r s e le = absurd (omega arith)
  fronts (x ∷ xs) (y ∷ ys) r s e le =
      let hd : x ≡ y = cc in
      let tl : xs ++ r ≡ ys ++ s = cc in
      let t = fronts xs ys r s tl (omega arith) in
      (t.0, λ i. hd i ∷ t.1 i)

  pub two_fronts : (now xs ys : List A) → StartsWith now xs → StartsWith now ys → length ys ≤ length xs → StartsWith xs ys
  two_fronts now xs ys a b le = fronts xs ys a.0 b.0 (sym a.1 ∙ b.1) le

  -- the longer and the shorter of two beginnings of one list
  ends : (now xs ys : List A) → StartsWith now xs → StartsWith now ys → (b : Bool) → nat_lt (length xs) (length ys) ≡ b
      → StartsWith now (if b then ys else xs) × StartsWith (if b then ys else xs) xs × StartsWith (if b then ys else xs) ys ×
      StartsWith now (if b then xs else ys)
  ends now xs ys a c true is = let le : length xs ≤ length ys = grind (arith, nat_tests) in (c, two_fronts now ys xs c a le, begins_self ys, a)
  ends now xs ys a c false is = let le : length ys ≤ length xs = grind (arith, nat_tests) in (a, begins_self xs, two_fronts now xs ys a c le, c)

  pub longest : (now xs ys : List A) → StartsWith now xs → StartsWith now ys → StartsWith now (longer xs ys) × StartsWith (longer xs ys) xs ×
      StartsWith (longer xs ys) ys × StartsWith now (shorter xs ys)
  longest now xs ys a c = ends now xs ys a c (nat_lt (length xs) (length ys)) refl

module _ {I : Type 0} where
  pub pairs-append : (n : ℕ) (xs ys : List (ℕ × I)) → pairs_under n (xs ++ ys) ≡ pairs_under n xs ++ pairs_under n ys
  pairs-append n xs ys = filter-append (λ p. p.0 == n) xs ys

  -- a list of which no number has a pair is empty
  pub no_pairs : (xs : List (ℕ × I)) → ((n : ℕ) → pairs_under n xs ≡ []) → xs ≡ []
  no_pairs [] h = refl
  no_pairs (x ∷ xs) h = let e : cond (eqb x.0 x.0) (x ∷ pairs_under x.0 xs) (pairs_under x.0 xs) ≡ [] = h x.0 in
      let f : cond true (x ∷ pairs_under x.0 xs) (pairs_under x.0 xs) ≡ [] =
      subst (λ b. cond b (x ∷ pairs_under x.0 xs) (pairs_under x.0 xs) ≡ []) (eq-eqb x.0 x.0 refl) e in cc

  pub quiet_self : (P : ℕ → Type 0) (xs : List (ℕ × I)) → Quiet P xs xs
  quiet_self P xs = ([], sym (append-nil xs), λ n p. refl)

  pub quiet_more : (P : ℕ → Type 0) (xs ys zs : List (ℕ × I)) → Quiet P xs ys → ((n : ℕ) → P n → pairs_under n zs ≡ []) → Quiet P (xs ++ zs) ys
  quiet_more P xs ys zs q none = (
    q.0 ++ zs,
    ap (λ l. l ++ zs) q.1 ∙ append_assoc ys q.0 zs,
    λ n p. pairs-append n q.0 zs ∙ (ap (λ l. l ++ pairs_under n zs) (q.2 n p) ∙ none n p),
  )

  pub quiet_fewer : (P Q : ℕ → Type 0) (xs ys : List (ℕ × I)) → Quiet P xs ys → ((n : ℕ) → Q n → P n) → Quiet Q xs ys
  quiet_fewer P Q xs ys q f = (q.0, q.1, λ n p. q.2 n (f n p))

  -- what lies between two beginnings of a list, and what lies past the longer, has no pair that all past the shorter has not
  pub quiet_parts : (n : ℕ) (now front mid more rest : List (ℕ × I)) → now ≡ front ++ more → pairs_under n more ≡ [] → now ≡ (front ++ mid) ++ rest →
      (pairs_under n mid ≡ []) × (pairs_under n rest ≡ [])
  quiet_parts n now front mid more rest e none f = grind (arith, append_cancel_left, append_assoc, pairs-append, left_nil, right_nil)

  pub own_more : (n : ℕ) (xs ys own zs rest : List (ℕ × I)) → OwnPast n xs ys own → zs ≡ xs ++ rest → OwnPast n zs ys (own ++ pairs_under n rest)
  own_more n xs ys own zs rest o e = grind (arith, append_assoc, pairs-append)

  pub own_quiet : (n : ℕ) (xs ys own zs rest : List (ℕ × I)) → OwnPast n xs ys own → zs ≡ xs ++ rest → pairs_under n rest ≡ [] → OwnPast n zs ys own
  own_quiet n xs ys own zs rest o e none = subst (OwnPast n zs ys) (ap (λ l. own ++ l) none ∙ append-nil own) (own_more n xs ys own zs rest o e)

  -- what at most one pair of the number n adds
  pub grown : (n : ℕ) (xs ys : List (ℕ × I)) → GrowsByOne n xs ys
      → (rest : List (ℕ × I)) × (xs ≡ ys ++ rest) × (drop (length ys) xs ≡ rest) × (pairs_under n rest ≡ rest) × ((m : ℕ) → m ≢ n → pairs_under m rest ≡ [])
  grown n xs ys (inl e) = let f : xs ≡ ys ++ [] = e ∙ sym (append-nil ys) in ([], f, ap (drop (length ys)) f ∙ drop-append_seam ys [], refl, λ m ne. refl)
  grown n xs ys (inr p) = grind (arith, drop-append_seam)
