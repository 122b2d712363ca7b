-- The members of a small object, and the items of an array.
use Rattle.std.proofs.Common.{◌≡◌, ℕ, zero, suc, ◌+◌, ◌-◌, ◌<◌, ◌≤◌, Bool, List, [], ◌∷◌, length, drop, get_or, refl, sym, ap, ap₂, ◌∙◌, arith, Global, String}
use Rattle.std.proofs.Common.{string_bytes}
use Rattle.std.proofs.lemmas.List.{drop_more}
use Rattle.std.specs.Prelude.{Some, None, option_and_then, slice_get, if◌then◌else◌}
use Rattle.serde_json.specs.declared.value.Value.{Value}
use Rattle.serde_json.specs.Data.{no_items, item, depth, items_depth}
use Rattle.serde_json.specs.Find.{as_str}
use Rattle.serde_json.specs.View.{view, items_view, members_view}
use Rattle.policy_book.specs.Laws.Shapes.{PolicyShape}
use Rattle.entry_reader.specs.Values.{are_node_keys, lone, node_at, pair_at, free_state, user_state, user_read, seen_at}
use Rattle.entry_reader.proofs.Readings.{some_same, none_some}

pub lone_none : (es : List (String Global × Value)) → (length es ≡ 1 → ⊥) → lone (members_view es) ≡ None
lone_none [] h = refl
lone_none (e ∷ []) h = absurd (h refl)
lone_none (e ∷ g ∷ es) h = refl

pub lone_some : (es : List (String Global × Value)) (k : String Global) (v : Value) → length es ≡ 1 → slice_get es 0 ≡ Some (k, v) →
    lone (members_view es) ≡ Some (string_bytes k, view v)
lone_some [] k v h e = absurd (none_some (k, v) e)
lone_some (x ∷ []) k v h e = ap (λ m. Some (string_bytes m.0, view m.1)) (some_same x (k, v) e)
lone_some (x ∷ y ∷ es) k v h e = absurd (omega (arith, h))

pub node_none : (es : List (String Global × Value)) → (length es ≡ 2 → ⊥) → node_at (members_view es) ≡ None
node_none [] h = refl
node_none (e ∷ []) h = refl
node_none (e ∷ g ∷ []) h = absurd (h refl)
node_none (e ∷ g ∷ i ∷ es) h = refl

pub node_told : (es : List (String Global × Value)) (k l : String Global) (v w : Value) (keys : Bool) → length es ≡ 2 → slice_get es 0 ≡ Some (k, v)
    → slice_get es (length es - 1) ≡ Some (l, w) → are_node_keys (string_bytes k) (string_bytes l) ≡ keys
    → node_at (members_view es) ≡ (if keys then Some (view v, view w) else None)
node_told [] k l v w keys h e g is = absurd (omega (arith, h))
node_told (x ∷ []) k l v w keys h e g is = absurd (omega (arith, h))
node_told (x ∷ y ∷ []) k l v w keys h e g is = grind arith
node_told (x ∷ y ∷ z ∷ es) k l v w keys h e g is = absurd (omega (arith, h))

pub pair_none : (vs : List Value) → (length vs ≡ 2 → ⊥) → pair_at (items_view vs) ≡ None
pair_none [] h = refl
pair_none (a ∷ []) h = refl
pair_none (a ∷ b ∷ []) h = absurd (h refl)
pair_none (a ∷ b ∷ c ∷ vs) h = refl

pub pair_some : (vs : List Value) (a b : Value) → length vs ≡ 2 → a ≡ get_or vs 0 a → b ≡ get_or vs 1 b → pair_at (items_view vs) ≡ Some (view a, view b)
pair_some [] a b h i j = absurd (omega (arith, h))
pair_some (x ∷ []) a b h i j = absurd (omega (arith, h))
pair_some (x ∷ y ∷ []) a b h i j = ap₂ (λ u v. Some (view u, view v)) (sym i) (sym j)
pair_some (x ∷ y ∷ z ∷ vs) a b h i j = absurd (omega (arith, h))

pub seen_none : (p : PolicyShape) (vs : List Value) → (length vs ≡ 1 → ⊥) → (length vs ≡ 2 → ⊥) → seen_at p (items_view vs) ≡ None
seen_none p [] h g = refl
seen_none p (a ∷ []) h g = absurd (h refl)
seen_none p (a ∷ b ∷ []) h g = absurd (g refl)
seen_none p (a ∷ b ∷ c ∷ vs) h g = refl

pub seen_free : (p : PolicyShape) (vs : List Value) (a : Value) → length vs ≡ 1 → a ≡ get_or vs 0 a →
    seen_at p (items_view vs) ≡ option_and_then free_state (as_str (view a))
seen_free p [] a h i = absurd (omega (arith, h))
seen_free p (x ∷ []) a h i = ap (λ v. option_and_then free_state (as_str (view v))) (sym i)
seen_free p (x ∷ y ∷ vs) a h i = absurd (omega (arith, h))

pub seen_user : (p : PolicyShape) (vs : List Value) (a b : Value) → length vs ≡ 2 → a ≡ get_or vs 0 a → b ≡ get_or vs 1 b
    → seen_at p (items_view vs) ≡ option_and_then (λ w. option_and_then (user_state w) (user_read p (view b))) (as_str (view a))
seen_user p [] a b h i j = absurd (omega (arith, h))
seen_user p (x ∷ []) a b h i j = absurd (omega (arith, h))
seen_user p (x ∷ y ∷ []) a b h i j = ap₂ (λ u v. option_and_then (λ w. option_and_then (user_state w) (user_read p (view v))) (as_str (view u))) (sym i) (sym j)
seen_user p (x ∷ y ∷ z ∷ vs) a b h i j = absurd (omega (arith, h))

-- ---- items one after the other

pub items_next : (vs : List Value) (i : ℕ) (v : Value) → i < length vs → v ≡ get_or vs i v →
    items_view (drop i vs) ≡ item (view v) (items_view (drop (i + 1) vs))
items_next vs i v h e = ap items_view (drop_more vs i v h) ∙ ap (λ x. item (view x) (items_view (drop (i + 1) vs))) (sym e)

pub items_done : (vs : List Value) (i : ℕ) → length vs ≤ i → items_view (drop i vs) ≡ no_items
items_done [] zero h = refl
items_done [] (suc i) h = refl
items_done (x ∷ vs) zero h = absurd (omega (arith, h))
items_done (x ∷ vs) (suc i) h = items_done vs i (omega (arith, h))

pub item_below : (vs : List Value) (i : ℕ) (v : Value) → i < length vs → v ≡ get_or vs i v → depth (view v) ≤ items_depth (items_view vs)
item_below [] i v h e = absurd (omega (arith, h))
item_below (x ∷ vs) i v h e = grind (arith, (item_below vs))
