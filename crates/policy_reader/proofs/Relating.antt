-- Relations that were read from the entries of a table, up to the last of them.
use Rattle.std.proofs.Common.{◌≡◌, ℕ, zero, suc, ◌+◌, ◌<◌, ◌≤◌, Bool, true, false, cond, List, [], ◌∷◌, ◌++◌, length, map, refl, sym, ap, ◌∙◌, subst, ◌⊎◌, inl}
use Rattle.std.proofs.Common.{inr, arith, Option, Some, None, option_map, slice_get, nat_eq, codes, Ok, string_bytes}
use Rattle.policy_reader.specs.declared.fault.PolicyKind.TheVariants as kind
use Rattle.policy_reader.proofs.Words.{list_any, pointwise, nat_list_eq_equiv, eq_same, eq_below, length-map, map-append, IsDistinct-push, Data}
use Rattle.policy_reader.proofs.Words.{Members, RELATION_LIMIT, USER_LIMIT, AreOfUsers, Reading, lists_text, entries, first_declared}
use Rattle.policy_reader.proofs.Words.{entry_of, is_complement, is_complement_table, names_of, Ascend, view, members_view, is_marked, IsTarget}
use Rattle.policy_reader.proofs.Words.{IsReadKind, AreReadRelations}
use Rattle.std.specs.List.{IsDistinct}
use Rattle.user_relations.specs.Laws.Relations.{RelationShape, RelationKind, listed, complement, kind_of, has_list, known_names}
use Rattle.user_relations.specs.Laws.Soundness.{AreSoundRelations}
use Rattle.policy_reader.specs.declared.fault.PolicyPart.{PolicyPart}
use Rattle.policy_reader.specs.Parts.{table_in}
use Rattle.std.specs.List.Sorted.{IsStrictlySortedBy}
use Rattle.policy_reader.proofs.Counts.{count_entries}
use Rattle.policy_reader.proofs.Orders.{below_limit}
use Rattle.policy_reader.proofs.Fresh.{Entry, texts_count, IsLeft}

-- ---- one relation more

-- a name that is neither built in nor declared is unknown
unknown_name : (rs : List RelationShape) (key : List ℕ) → lists_text (codes "same" ∷ codes "other" ∷ []) key ≡ false → lists_text (names_of rs) key ≡ false →
    list_any (pointwise nat_eq key) (known_names rs) ≡ false
unknown_name rs key free new = grind arith

pub names_push : (rs : List RelationShape) (r : RelationShape) → map (λ x. x.name) (rs ++ r ∷ []) ≡ map (λ x. x.name) rs ++ r.name ∷ []
names_push rs r = map-append (λ (x : RelationShape). x.name) rs (r ∷ [])

pushed : (rs : List RelationShape) (r : RelationShape) (n : ℕ) → (slice_get (rs ++ r ∷ []) n ≡ slice_get rs n) ⊎
    ((n ≡ length rs) × (slice_get (rs ++ r ∷ []) n ≡ Some r))
pushed [] r zero = inr (refl, refl)
pushed [] r (suc n) = inl refl
pushed (x ∷ rs) r zero = inl refl
pushed (x ∷ rs) r (suc n) = elim (pushed rs r n) [ inl same ↦ inl same | inr new ↦ inr (ap suc new.0, new.1) ]

pub kind_pushed : (rs : List RelationShape) (r : RelationShape) (m : ℕ) → (kind_of (rs ++ r ∷ []) m ≡ kind_of rs m) ⊎
    ((m ≡ first_declared + length rs) × (kind_of (rs ++ r ∷ []) m ≡ Some r.kind))
kind_pushed rs r m = grind (arith, pushed)

pub kept_push : (users : ℕ) (all : List (List ℕ × Data)) (rs : List RelationShape) (r : RelationShape) → AreReadRelations users all rs →
    lists_text (codes "same" ∷ codes "other" ∷ []) r.name ≡ false
    → lists_text (names_of rs) r.name ≡ false → IsReadKind users all (is_marked first_declared all (first_declared + length rs)) r.kind →
    AreReadRelations users all (rs ++ r ∷ [])
kept_push users all rs r h free new here = record {
  names = subst (λ ns. IsDistinct (pointwise nat_eq) (codes "same" ∷ codes "other" ∷ ns)) (sym (names_push rs r))
      (IsDistinct-push nat_list_eq_equiv (known_names rs) r.name h.names (unknown_name rs r.name free new));
  kinds = λ rho k e. elim (kind_pushed rs r rho) [
    | inl same ↦ h.kinds rho k (sym same ∙ e)
    | inr now ↦
        let is : Some r.kind ≡ Some k = sym now.1 ∙ e in
        let same : r.kind ≡ k = cc in
        subst (λ x. IsReadKind users all (is_marked first_declared all rho) x) same
        (subst (λ n. IsReadKind users all (is_marked first_declared all n) r.kind) (sym now.0) here)
  ];
}

pub kept_none : (users : ℕ) (all : List (List ℕ × Data)) → AreReadRelations users all []
unfolding IsDistinct
kept_none users all = grind arith

-- ---- the last relation

pub ascend_none : Ascend []
unfolding IsStrictlySortedBy
ascend_none = tt

pub related_of : (users : ℕ) (all : List (List ℕ × Data)) (rs : List RelationShape) → AreReadRelations users all rs → AreOfUsers users rs
related_of users all rs h rho pairs e = (h.kinds rho (listed pairs) e).1

got : (rs : List RelationShape) (n : ℕ) → option_map (λ r. r.kind) (slice_get rs n) ≡ None → n < length rs → ⊥
got [] n e lt = omega (arith, lt)
got (r ∷ rs) zero e lt = cc
got (r ∷ rs) (suc n) e lt = got rs n e (omega (arith, lt))

there : (rs : List RelationShape) (m : ℕ) → first_declared ≤ m → m < first_declared + length rs → kind_of rs m ≡ None → ⊥
there rs m le lt e = grind (arith, got)

is_list : (users : ℕ) (all : List (List ℕ × Data)) (marked : Bool) (o : Option RelationKind) → marked ≡ false → (o ≡ None → ⊥) →
    ((k : RelationKind) → o ≡ Some k → IsReadKind users all marked k) → has_list o ≡ true
is_list users all marked None other some kept = absurd (some refl)
is_list users all marked (Some (listed pairs)) other some kept = refl
is_list users all marked (Some (complement m)) other some kept = let no : true ≡ false = sym (kept (complement m) refl).0 ∙ other in cc

-- all relations of a table were read
pub sound_of : (users : ℕ) (all : List (List ℕ × Data)) (rs : List RelationShape) → AreReadRelations users all rs → users ≤ USER_LIMIT →
    length rs ≡ length all → length all ≤ RELATION_LIMIT → AreSoundRelations rs
sound_of users all rs h le same few = record {
  count = omega (arith, same, few);
  names = h.names;
  few = λ rho pairs e. (h.kinds rho (listed pairs) e).0;
  users = λ rho pairs e. below_limit users USER_LIMIT pairs le (h.kinds rho (listed pairs) e).1;
  complements = λ rho n e.
      let t = (h.kinds rho (complement n) e).1 in
      is_list users all (is_marked first_declared all n) (kind_of rs n) t.other (there rs n t.declared (omega (arith, t.within, same))) (h.kinds n);
}

-- ---- numbers of entries

entry_target : (n : ℕ) (key : List ℕ) (es : List (List ℕ × Data)) (m : ℕ) (b : Bool) → entry_of n key es ≡ Some (m, b) → (is_marked n es m ≡ b) × (n ≤ m) ×
    (m < n + length es)
entry_target n key [] m b e = cc
entry_target n key (x ∷ es) m b e =
    elim (pointwise nat_eq key x.0) as (λ t. cond t (Some (n, is_complement x.1)) (entry_of (n + 1) key es) ≡ Some (m, b) → (is_marked n (x ∷ es) m ≡ b) ×
    (n ≤ m) × (m < n + length (x ∷ es))) [
      | true ↦ λ found.
          let made : ℕ × Bool = (n, is_complement x.1) in
          let p : made ≡ (m, b) = cc in
          let number : n ≡ m = ap (λ (q : ℕ × Bool). q.0) p in
          let told : is_complement x.1 ≡ b = ap (λ (q : ℕ × Bool). q.1) p in (
            subst (λ k. cond (nat_eq n k) (is_complement x.1) (is_marked (n + 1) es k) ≡ b) number (rw (eq_same n) told),
            omega (arith, number),
            omega (arith, number),
          )
      | false ↦ λ found.
          let later = entry_target (n + 1) key es m b found in
          (rw (eq_below n m (omega (arith, later.1))) later.0, omega (arith, later.1), omega (arith, later.2))
    ] e

pub target_of : (key : List ℕ) (all : List (List ℕ × Data)) (m : ℕ) → entry_of first_declared key all ≡ Some (m, false) → IsTarget all m
target_of key all m e = let t = entry_target first_declared key all m false e in record { other = t.0; declared = t.1; within = t.2 }

-- the entry with a number is marked as it is
pub marked_at : (n : ℕ) (before : List (List ℕ × Data)) (x : List ℕ × Data) (rest : List (List ℕ × Data)) →
    is_marked n (before ++ x ∷ rest) (n + length before) ≡ is_complement x.1
marked_at n [] x rest = let same : n + 0 ≡ n = omega arith in rw (same, eq_same n) refl
marked_at n (y ∷ before) x rest = grind (arith, (marked_at (n + 1) before x rest))

entries_append : (xs ys : List Entry) → entries (members_view (xs ++ ys)) ≡ entries (members_view xs) ++ entries (members_view ys)
entries_append [] ys = refl
entries_append (x ∷ xs) ys = ap (λ es. (string_bytes x.0, view x.1) ∷ es) (entries_append xs ys)

pub names_count : (rs : List RelationShape) → length (names_of rs) ≡ length rs
names_count rs = length-map rs (λ (r : RelationShape). r.name)

-- the entry that is read next has the mark of the next relation
pub marked_next : (read : List RelationShape → List ℕ × Data → Reading (List RelationShape)) (whole : Reading (List RelationShape)) (all left : List Entry)
    (e : Entry) (es : List Entry) (rs : List RelationShape)
    → left ≡ e ∷ es → IsLeft read names_of all whole rs left →
    is_marked first_declared (entries (members_view all)) (first_declared + length rs) ≡ is_complement (view e.1)
marked_next read whole all left e es rs steps h = grind (arith, entries_append, names_count, texts_count, count_entries, marked_at)

pub table_told : (part : PolicyPart) (n : ℕ) (d : Data) (ms : Members) → table_in part n d ≡ Ok ms → is_complement d ≡ is_complement_table ms
unfolding table_in
table_told part n d ms e = grind arith
