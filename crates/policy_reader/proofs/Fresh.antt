-- A loop over a table: its keys ascend, so none is among the names that were read from those before it.
use Rattle.std.proofs.Common.{◌≡◌, ℕ, Bool, false, List, [], ◌∷◌, ◌++◌, map, String, Global, string_bytes, refl, sym, ap, ◌∙◌, length, Ok, subst, append_assoc}
use Rattle.std.proofs.Common.{arith, nat_cmp, is_eq, is_some, nat_eq, position, Less}
use Rattle.policy_reader.proofs.Words.{length-map, map-append, append-nil, ordering_reverse, slice_cmp, pointwise, nat_list_cmp_total, texts_ties}
use Rattle.policy_reader.proofs.Words.{AllByRecursion, Value, Data, view, members_view, ◌>>=◌, each, Reading, entries, lists_text, Ascend}
use Rattle.std.proofs.lemmas.Grind.{common_steps}
use Rattle.std.specs.List.Sorted.{IsStrictlySortedBy}
use Rattle.std.specs.Map.{keys_of}
use Rattle.std.specs.String.{string_cmp}
use Rattle.wf_names.specs.Table.{place_of}

abbrev pub Entry : Type 0
Entry = String Global × Value

abbrev pub texts : List Entry → List (List ℕ)
texts es = map (λ e. string_bytes e.0) es

-- a name is not among some names
abbrev pub IsNew : List (List ℕ) → Entry → Type 0
IsNew names e = is_some (place_of names (string_bytes e.0)) ≡ false

first_below : (k : String Global) (es : List Entry) → AllByRecursion (λ y. string_cmp k y ≡ Less) (keys_of es) →
    AllByRecursion (λ y. slice_cmp nat_cmp (string_bytes k) y ≡ Less) (texts es)
first_below k [] h = tt
first_below k (e ∷ es) h = (h.0, first_below k es h.1)

texts_ascend : (es : List Entry) → IsStrictlySortedBy string_cmp (keys_of es) → Ascend (texts es)
unfolding IsStrictlySortedBy
texts_ascend [] h = tt
texts_ascend (e ∷ es) h = (first_below e.0 es h.0, texts_ascend es h.1)

pub none_cons : {X : Type 0} (p : X → Bool) (x : X) (xs : List X) → p x ≡ false → is_some (position p xs) ≡ false → is_some (position p (x ∷ xs)) ≡ false
none_cons p x xs here none = grind (arith, common_steps)

differs : (k l : List ℕ) → slice_cmp nat_cmp k l ≡ Less → pointwise nat_eq l k ≡ false
differs k l below = texts_ties l k ∙ ap is_eq (nat_list_cmp_total.antisymm l k ∙ ap ordering_reverse below)

pub among : {X : Type 0} (P : X → Type 0) (xs : List X) (y : X) (ys : List X) → AllByRecursion P (xs ++ y ∷ ys) → P y
among P [] y ys h = h.0
among P (x ∷ xs) y ys h = among P xs y ys h.1

new_in : (names : List (List ℕ)) (k : List ℕ) (ks : List (List ℕ)) → Ascend (names ++ k ∷ ks) → is_some (place_of names k) ≡ false
unfolding IsStrictlySortedBy
new_in [] k ks h = refl
new_in (n ∷ names) k ks h =
    none_cons (pointwise nat_eq k) n names (differs n k (among (λ y. slice_cmp nat_cmp n y ≡ Less) names k ks h.0)) (new_in names k ks h.1)

none_in : (names : List (List ℕ)) (k : List ℕ) (ks : List (List ℕ)) → Ascend (names ++ k ∷ ks) → lists_text names k ≡ false
unfolding IsStrictlySortedBy
none_in [] k ks h = refl
none_in (n ∷ names) k ks h = rw (differs n k (among (λ y. slice_cmp nat_cmp n y ≡ Less) names k ks h.0)) (none_in names k ks h.1)

-- a loop over a table read its first entries: what is left gives the whole
pub record IsLeft {S : Type 0} (read : S → List ℕ × Data → Reading S) (names : S → List (List ℕ)) (all : List Entry) (whole : Reading S) (so_far : S)
    (es : List Entry) : Type 0 where
  pub before : List Entry
  pub split : all ≡ before ++ es
  pub named : names so_far ≡ texts before
  pub ascend : Ascend (texts all)
  pub reads : each read so_far (entries (members_view es)) ≡ whole

pub texts_count : (es : List Entry) → length (texts es) ≡ length es
texts_count es = length-map es (λ (e : Entry). string_bytes e.0)

module _ {S : Type 0} (read : S → List ℕ × Data → Reading S) (names : S → List (List ℕ)) (all : List Entry) (whole : Reading S) where
  pub left_next : (s t : S) (left : List Entry) (e : Entry) (es : List Entry) → left ≡ e ∷ es → IsLeft read names all whole s left →
      read s (string_bytes e.0, view e.1) ≡ Ok t
      → names t ≡ names s ++ string_bytes e.0 ∷ [] → IsLeft read names all whole t es
  left_next s t left e es steps h given named =
      let at : IsLeft read names all whole s (e ∷ es) = subst (λ x. IsLeft read names all whole s x) steps h in
      let reads : (read s (string_bytes e.0, view e.1) >>= (λ next. each read next (entries (members_view es)))) ≡ whole = at.reads in
      record {
        before = at.before ++ e ∷ [];
        split = at.split ∙ sym (append_assoc at.before (e ∷ []) es);
        named = named ∙ ap (λ ns. ns ++ string_bytes e.0 ∷ []) at.named ∙ sym (map-append (λ (x : Entry). string_bytes x.0) at.before (e ∷ []));
        ascend = at.ascend;
        reads = subst (λ r. (r >>= (λ next. each read next (entries (members_view es)))) ≡ whole) given reads;
      }

  parts : (s : S) (left : List Entry) (e : Entry) (es : List Entry) → left ≡ e ∷ es → (h : IsLeft read names all whole s left) →
      texts all ≡ texts h.before ++ string_bytes e.0 ∷ texts es
  parts s left e es steps h = ap texts (h.split ∙ ap (λ x. h.before ++ x) steps) ∙ map-append (λ (x : Entry). string_bytes x.0) h.before (e ∷ es)

  pub left_none : (s : S) (left : List Entry) (e : Entry) (es : List Entry) → left ≡ e ∷ es → IsLeft read names all whole s left →
      lists_text (names s) (string_bytes e.0) ≡ false
  left_none s left e es steps h = rw h.named (none_in (texts h.before) (string_bytes e.0) (texts es) (subst Ascend (parts s left e es steps h) h.ascend))

  pub left_new : (s : S) (left : List Entry) (e : Entry) (es : List Entry) → left ≡ e ∷ es → IsLeft read names all whole s left → IsNew (names s) e
  left_new s left e es steps h = rw h.named (new_in (texts h.before) (string_bytes e.0) (texts es) (subst Ascend (parts s left e es steps h) h.ascend))

  -- after the last entry the names are the keys
  left_all : (s : S) (left : List Entry) → left ≡ [] → IsLeft read names all whole s left → names s ≡ texts all
  left_all s left none h = h.named ∙ sym (ap texts (h.split ∙ ap (λ x. h.before ++ x) none ∙ append-nil h.before))

  pub left_ascend : (s : S) (left : List Entry) → left ≡ [] → IsLeft read names all whole s left → Ascend (names s)
  left_ascend s left none h = subst Ascend (sym (left_all s left none h)) h.ascend

  pub left_count : (s : S) (left : List Entry) → left ≡ [] → IsLeft read names all whole s left → length (names s) ≡ length all
  left_count s left none h = ap length (left_all s left none h) ∙ texts_count all

pub left_start : {S : Type 0} (read : S → List ℕ × Data → Reading S) (names : S → List (List ℕ)) (s : S) (all : List Entry) → names s ≡ [] →
    IsStrictlySortedBy string_cmp (keys_of all)
    → IsLeft read names all (each read s (entries (members_view all))) s all
left_start read names s all none sorted = record { before = []; split = refl; named = none; ascend = texts_ascend all sorted; reads = refl }
