-- Every change leaves the relations sound.
use Rattle.std.proofs.Common.{◌≡◌, ℕ, zero, suc, ◌+◌, ◌-◌, ◌<◌, ◌≤◌, true, false, cond, List, [], ◌∷◌, ◌++◌, length, map, take, drop, refl, sym, ap, ◌∙◌, subst}
use Rattle.std.proofs.Common.{◌⊎◌, inl, inr, arith, length-append}
use Rattle.std.specs.Prelude.{Some, None, option_map, slice_get, is_some, nat_eq, codes, Result, Ok, Err, OnOk, OnErr}
use Rattle.std.specs.List.{IsDistinct}
use Rattle.std.specs.FinSet as set
use Rattle.std.specs.Cmp.Lexicographic.{pointwise, nat_list_eq_equiv}
use Rattle.std.proofs.lemmas.Bool.{cases_eq, leb-false}
use Rattle.std.proofs.lemmas.List.{map-append}
use Rattle.std.proofs.lemmas.Map.Keys.{IsDistinct-push}
use Rattle.std.proofs.Math.Seq.{take-append_seam}
use Rattle.basics.specs.Laws.Pairs.{Pairs, AllPairs}
use Rattle.basics.specs.PairLaws.{pair_cmp_total, all_insert, all_remove}
use Rattle.wf_names.specs.Table.{place_of}
use Rattle.wf_names.specs.declared.limits.TheConstants.{USER_LIMIT, RELATION_LIMIT, PAIR_LIMIT}
use Rattle.user_relations.specs.declared.RelationFault.{RelationFault}
use Rattle.user_relations.specs.declared.kinds.Relation.{Relation}
use Rattle.user_relations.specs.View.{shapes}
use Rattle.user_relations.specs.Laws.Relations.{RelationShape, RelationKind, listed, complement, kind_of, has_list, is_listed, complemented, complement_of}
use Rattle.user_relations.specs.Laws.Relations.{listed_pairs, pairs_of, known_names, change_kind, with_kind}
use Rattle.user_relations.specs.Kinds.{AnswersFault, put_fault, take_fault, relate_fault, unrelate_fault}
use Rattle.user_relations.specs.Laws.Soundness.{AreSoundRelations}
use Rattle.std.specs.declared.alloc.AllocError.{AllocError}
use Rattle.user_relations.specs.declared.kinds.Relation.{Relation}
use Rattle.user_relations.specs.View.{shapes}
use Rattle.user_relations.proofs.Named.{unknown}

abbrev AreUsers : ℕ → ℕ → Type 0
AreUsers u v = (u < USER_LIMIT) × (v < USER_LIMIT)

-- a list that was written through a slice
written_back : {X : Type 0} (new old : List X) (n : ℕ) → n ≡ length old → length new ≡ length old → take n (new ++ drop (length new) old) ≡ new
written_back new old n e same = ap (λ k. take k (new ++ drop (length new) old)) (e ∙ sym same) ∙ take-append_seam new (drop (length new) old)

-- relations that were written so are sound, where what was written is
pub sound_back : (old given new : List Relation) (n : ℕ) → given ≡ old → length given ≡ n → length new ≡ length given → AreSoundRelations (shapes old) →
    (AreSoundRelations (shapes given) → AreSoundRelations (shapes new)) → AreSoundRelations (shapes (take n (new ++ drop (length new) old)))
sound_back old given new n is long same before after = grind (arith, written_back)

names_kept : (rs : List RelationShape) (n : ℕ) (k : RelationKind) → map (λ r. r.name) (change_kind rs n k) ≡ map (λ r. r.name) rs
names_kept [] n k = refl
names_kept (r ∷ rs) zero k = refl
names_kept (r ∷ rs) (suc n) k = ap (λ ns. r.name ∷ ns) (names_kept rs n k)

length_kept : (rs : List RelationShape) (n : ℕ) (k : RelationKind) → length (change_kind rs n k) ≡ length rs
length_kept [] n k = refl
length_kept (r ∷ rs) zero k = refl
length_kept (r ∷ rs) (suc n) k = ap suc (length_kept rs n k)

known_names_kept : (rs : List RelationShape) (rho : ℕ) (k : RelationKind) → known_names (with_kind rs rho k) ≡ known_names rs
known_names_kept rs rho k = grind (arith, names_kept)

count_kept : (rs : List RelationShape) (rho : ℕ) (k : RelationKind) → length (with_kind rs rho k) ≡ length rs
count_kept rs rho k = grind (arith, length_kept)

got_here : (rs : List RelationShape) (n : ℕ) (k0 k : RelationKind) → option_map (λ r. r.kind) (slice_get rs n) ≡ Some k0 →
    option_map (λ r. r.kind) (slice_get (change_kind rs n k) n) ≡ Some k
got_here [] n k0 k e = cc
got_here (r ∷ rs) zero k0 k e = refl
got_here (r ∷ rs) (suc n) k0 k e = got_here rs n k0 k e

-- a declared relation has its new kind
kind_here : (rs : List RelationShape) (rho : ℕ) (k0 k : RelationKind) → kind_of rs rho ≡ Some k0 → kind_of (with_kind rs rho k) rho ≡ Some k
kind_here rs rho k0 k e = grind (arith, got_here)

got_there : (rs : List RelationShape) (n m : ℕ) (k : RelationKind) → (m ≡ n → ⊥) →
    option_map (λ r. r.kind) (slice_get (change_kind rs n k) m) ≡ option_map (λ r. r.kind) (slice_get rs m)
got_there [] n m k differ = refl
got_there (r ∷ rs) zero zero k differ = absurd (differ refl)
got_there (r ∷ rs) zero (suc m) k differ = refl
got_there (r ∷ rs) (suc n) zero k differ = refl
got_there (r ∷ rs) (suc n) (suc m) k differ = got_there rs n m k (λ e. differ (ap suc e))

-- and the others have theirs
kind_there : (rs : List RelationShape) (rho m : ℕ) (k : RelationKind) → (m ≡ rho → ⊥) → kind_of (with_kind rs rho k) m ≡ kind_of rs m
kind_there rs rho m k differ = grind (arith, got_there)

kind_is : (rs : List RelationShape) (rho m : ℕ) (k0 k k1 : RelationKind) → kind_of rs rho ≡ Some k0 → m ≡ rho → kind_of (with_kind rs rho k) m ≡ Some k1 →
    k ≡ k1
kind_is rs rho m k0 k k1 was same e = grind (arith, kind_here)

sound_change : (rs : List RelationShape) (rho : ℕ) (k0 k : RelationKind) → AreSoundRelations rs → kind_of rs rho ≡ Some k0
    → ((pairs : Pairs) → k ≡ listed pairs → (set.len pairs ≤ PAIR_LIMIT) × AllPairs AreUsers pairs)
    → ((n : ℕ) → k ≡ complement n → is_listed (with_kind rs rho k) n ≡ true)
    → ((m : ℕ) → kind_of rs m ≡ Some (complement rho) → has_list (Some k) ≡ true)
    → AreSoundRelations (with_kind rs rho k)
sound_change rs rho k0 k s was lists points kept = record {
  count = subst (λ n. n ≤ RELATION_LIMIT) (sym (count_kept rs rho k)) s.count;
  names = subst (IsDistinct (pointwise nat_eq)) (sym (known_names_kept rs rho k)) s.names;
  few = λ m pairs e. elim (cases_eq m rho) [
    | inl same ↦ (lists pairs (kind_is rs rho m k0 k (listed pairs) was same e)).0
    | inr differ ↦ s.few m pairs (sym (kind_there rs rho m k differ) ∙ e)
  ];
  users = λ m pairs e. elim (cases_eq m rho) [
    | inl same ↦ (lists pairs (kind_is rs rho m k0 k (listed pairs) was same e)).1
    | inr differ ↦ s.users m pairs (sym (kind_there rs rho m k differ) ∙ e)
  ];
  complements = λ m n e. elim (cases_eq m rho) [
    | inl same ↦ points n (kind_is rs rho m k0 k (complement n) was same e)
    | inr differ ↦
        let there : kind_of rs m ≡ Some (complement n) = sym (kind_there rs rho m k differ) ∙ e in
        elim (cases_eq n rho) [
          | inl target ↦ ap has_list (ap (kind_of (with_kind rs rho k)) target ∙ kind_here rs rho k0 k was) ∙
              kept m (there ∙ ap (λ i. Some (complement i)) target)
          | inr other ↦ ap has_list (kind_there rs rho n k other) ∙ s.complements m n there
        ]
  ];
}

sound_list : (rs : List RelationShape) (rho : ℕ) (old new : Pairs) → AreSoundRelations rs → kind_of rs rho ≡ Some (listed old) → set.len new ≤ PAIR_LIMIT →
    AllPairs AreUsers new → AreSoundRelations (with_kind rs rho (listed new))
sound_list rs rho old new s was few users =
    sound_change rs rho (listed old) (listed new) s was
    (λ pairs e. let same : new ≡ pairs = cc in (subst (λ p. set.len p ≤ PAIR_LIMIT) same few, subst (AllPairs AreUsers) same users))
    (λ n e. cc)
    (λ m e. refl)

no_answer : {x : Unit {0}} {f : RelationFault} → Ok x ≡ Err f → ⊥
no_answer e = cc

-- a pair that was put in was not there, and there was room
room : (pairs : Pairs) (u v : ℕ) (x : Unit {0}) → AnswersFault (put_fault (Some (listed pairs)) u v) (Ok x) → (set.contains pairs (u, v) ≡ false) ×
    (set.len pairs < PAIR_LIMIT)
room pairs u v x f = grind (arith, no_answer, leb-false)

pub sound_relate : (rs new : List RelationShape) (rho u v : ℕ) (r : Result (Unit {0}) RelationFault) → AreSoundRelations rs → u < USER_LIMIT → v < USER_LIMIT
    → OnOk r (new ≡ with_kind rs rho (listed (set.insert (pairs_of rs rho) (u, v)))) → AnswersFault (relate_fault rs rho u v) r → OnErr r (new ≡ rs) →
    AreSoundRelations new
sound_relate rs new rho u v (Err e) s first second related fault same = subst AreSoundRelations (sym same) s
sound_relate rs new rho u v (Ok x) s first second related fault same =
    elim (kind_of rs rho) as (λ o. kind_of rs rho ≡ o → AnswersFault (put_fault o u v) (Ok x) →
    new ≡ with_kind rs rho (listed (set.insert (listed_pairs o) (u, v))) → AreSoundRelations new) [
      | None ↦ λ e f is. absurd (no_answer f)
      | Some (complement n) ↦ λ e f is. absurd (no_answer f)
      | Some (listed pairs) ↦ λ e f is.
          let parts = room pairs u v x f in
          let grown : set.len (set.insert pairs (u, v)) ≡ set.len pairs + 1 = set.len-insert pair_cmp_total pairs (u, v) ∙
          ap (λ b. cond b (set.len pairs) (set.len pairs + 1)) parts.0 in
          let below : set.len pairs < PAIR_LIMIT = parts.1 in
          subst AreSoundRelations (sym is)
          (sound_list rs rho pairs (set.insert pairs (u, v)) s e (omega arith) (all_insert AreUsers pairs u v (first, second) (s.users rho pairs e)))
    ] refl fault related

less_by_one : (pairs : Pairs) (u v : ℕ) → set.len pairs ≤ PAIR_LIMIT → set.len (set.remove pairs (u, v)) ≤ PAIR_LIMIT
less_by_one pairs u v few =
    subst (λ n. n ≤ PAIR_LIMIT) (sym (set.len-remove pair_cmp_total pairs (u, v)))
    (elim (set.contains pairs (u, v)) as (λ b. cond b (set.len pairs - 1) (set.len pairs) ≤ PAIR_LIMIT) [ true ↦ omega arith | false ↦ few ])

pub sound_unrelate : (rs new : List RelationShape) (rho u v : ℕ) (r : Result (Unit {0}) RelationFault) → AreSoundRelations rs
    → OnOk r (new ≡ with_kind rs rho (listed (set.remove (pairs_of rs rho) (u, v)))) → AnswersFault (unrelate_fault rs rho u v) r → OnErr r (new ≡ rs) →
    AreSoundRelations new
sound_unrelate rs new rho u v (Err e) s unrelated fault same = subst AreSoundRelations (sym same) s
sound_unrelate rs new rho u v (Ok x) s unrelated fault same =
    elim (kind_of rs rho) as (λ o. kind_of rs rho ≡ o → AnswersFault (take_fault o u v) (Ok x) →
    new ≡ with_kind rs rho (listed (set.remove (listed_pairs o) (u, v))) → AreSoundRelations new) [
      | None ↦ λ e f is. absurd (no_answer f)
      | Some (complement n) ↦ λ e f is. absurd (no_answer f)
      | Some (listed pairs) ↦ λ e f is.
          subst AreSoundRelations (sym is) (sound_list rs rho pairs (set.remove pairs (u, v)) s e (less_by_one pairs u v (s.few rho pairs e))
          (all_remove AreUsers pairs u v (s.users rho pairs e)))
    ] refl fault unrelated

pub sound_complement : (rs new : List RelationShape) (rho of_number : ℕ) → AreSoundRelations rs → kind_of rs rho ≡ Some (listed set.empty) →
    is_listed rs of_number ≡ true → (rho ≡ of_number → ⊥)
    → ((n : ℕ) → complement_of rs n ≡ Some rho → ⊥) → new ≡ with_kind rs rho (complement of_number) → AreSoundRelations new
sound_complement rs new rho of_number s bare is_list differ free is =
    subst AreSoundRelations (sym is) (sound_change rs rho (listed set.empty) (complement of_number) s bare
    (λ pairs e. cc)
    (λ n e.
    let same : of_number ≡ n = cc in
    ap (is_listed (with_kind rs rho (complement of_number))) (sym same) ∙
    ap has_list (kind_there rs rho of_number (complement of_number) (λ q. differ (sym q))) ∙ is_list)
    (λ m e. absurd (free m (ap complemented e))))

-- a relation at the end
pushed : (rs : List RelationShape) (r : RelationShape) (n : ℕ) → (slice_get (rs ++ r ∷ []) n ≡ slice_get rs n) ⊎
    ((slice_get rs n ≡ None) × (slice_get (rs ++ r ∷ []) n ≡ Some r))
pushed [] r zero = inr (refl, refl)
pushed [] r (suc n) = inl refl
pushed (x ∷ rs) r zero = inl refl
pushed (x ∷ rs) r (suc n) = pushed rs r n

kind_pushed : (rs : List RelationShape) (r : RelationShape) (m : ℕ) → (kind_of (rs ++ r ∷ []) m ≡ kind_of rs m) ⊎
    ((kind_of rs m ≡ None) × (kind_of (rs ++ r ∷ []) m ≡ Some r.kind))
kind_pushed rs r m = grind (arith, pushed)

listed_still : (rs : List RelationShape) (r : RelationShape) (m : ℕ) → is_listed rs m ≡ true → is_listed (rs ++ r ∷ []) m ≡ true
listed_still rs r m e = grind (arith, kind_pushed)

none_declared : (m : ℕ) → kind_of [] m ≡ None
none_declared m = grind arith

pub sound_none : AreSoundRelations []
unfolding IsDistinct
sound_none = grind (arith, none_declared)

-- a relation with its pairs at the end
sound_add_pairs : (rs : List RelationShape) (name : List ℕ) (own : Pairs) → AreSoundRelations rs → length rs < RELATION_LIMIT →
    is_some (place_of (known_names rs) name) ≡ false
    → set.len own ≤ PAIR_LIMIT → AllPairs AreUsers own → AreSoundRelations (rs ++ (record { name = name; kind = listed own }) ∷ [])
sound_add_pairs rs name own s below fresh little users =
    let r : RelationShape = record { name = name; kind = listed own } in
    let longer : length (rs ++ r ∷ []) ≡ length rs + 1 = length-append rs (r ∷ []) in
    record {
      count = omega arith;
      names = subst (λ ns. IsDistinct (pointwise nat_eq) (codes "same" ∷ codes "other" ∷ ns)) (sym (map-append (λ (x : RelationShape). x.name) rs (r ∷ [])))
          (IsDistinct-push nat_list_eq_equiv (known_names rs) name s.names (unknown (known_names rs) name fresh));
      few = λ m pairs e. elim (kind_pushed rs r m) [
        | inl same ↦ s.few m pairs (sym same ∙ e)
        | inr new ↦ let is : Some (listed own) ≡ Some (listed pairs) = sym new.1 ∙ e in let same : own ≡ pairs = cc in
            subst (λ p. set.len p ≤ PAIR_LIMIT) same little
      ];
      users = λ m pairs e. elim (kind_pushed rs r m) [
        | inl same ↦ s.users m pairs (sym same ∙ e)
        | inr new ↦ let is : Some (listed own) ≡ Some (listed pairs) = sym new.1 ∙ e in let same : own ≡ pairs = cc in subst (AllPairs AreUsers) same users
      ];
      complements = λ m n e. elim (kind_pushed rs r m) [
        | inl same ↦ listed_still rs r n (s.complements m n (sym same ∙ e))
        | inr new ↦ let is : Some (listed own) ≡ Some (complement n) = sym new.1 ∙ e in cc
      ];
    }

-- the list that a push leaves
pub sound_push_pairs : (ds new : List Relation) (name : List ℕ) (own : Pairs) (r : Result (Unit {0}) AllocError)
    → OnOk r (shapes new ≡ shapes ds ++ (record { name = name; kind = listed own }) ∷ []) → OnErr r (new ≡ ds)
    → AreSoundRelations (shapes ds) → length (shapes ds) < RELATION_LIMIT → is_some (place_of (known_names (shapes ds)) name) ≡ false
    → set.len own ≤ PAIR_LIMIT → AllPairs AreUsers own → AreSoundRelations (shapes new)
sound_push_pairs ds new name own (Ok x) pushed same s below fresh little users =
    subst AreSoundRelations (sym pushed) (sound_add_pairs (shapes ds) name own s below fresh little users)
sound_push_pairs ds new name own (Err e) pushed same s below fresh little users = subst (λ (es : List Relation). AreSoundRelations (shapes es)) (sym same) s
