-- How many items an array and how many entries a table has.
use Rattle.std.proofs.Common.{◌≡◌, List, [], ◌∷◌, length, String, Global, refl, ap, get_or, ◌≢◌, None, arith, ◌<◌, ◌≤◌, ℕ, true, suc}
use Rattle.policy_reader.proofs.Words.{STEP_LIMIT, is_count, Value, view, items_view, members_view, items, entries, both_texts, texts_in}

pub count_items : (vs : List Value) → length (items (items_view vs)) ≡ length vs
count_items [] = refl
count_items (v ∷ vs) = ap suc (count_items vs)

pub count_entries : (es : List (String Global × Value)) → length (entries (members_view es)) ≡ length es
count_entries [] = refl
count_entries (e ∷ es) = ap suc (count_entries es)

pub texts_of_two : (vs : List Value) (d e : Value) → length vs ≡ 2 → texts_in (items_view vs) ≡ both_texts (view (get_or vs 0 d)) (view (get_or vs 1 e))
texts_of_two [] d e h = absurd (omega (arith, h))
texts_of_two (v ∷ []) d e h = absurd (omega (arith, h))
texts_of_two (v ∷ w ∷ []) d e h = refl
texts_of_two (v ∷ w ∷ x ∷ vs) d e h = absurd (omega (arith, h))

pub texts_of_others : (vs : List Value) → length vs ≢ 2 → texts_in (items_view vs) ≡ None
texts_of_others [] h = refl
texts_of_others (v ∷ []) h = refl
texts_of_others (v ∷ w ∷ []) h = absurd (h refl)
texts_of_others (v ∷ w ∷ x ∷ vs) h = refl

pub counted : (n : ℕ) → 0 < n → n ≤ STEP_LIMIT → is_count n ≡ true
counted n some few = grind arith
