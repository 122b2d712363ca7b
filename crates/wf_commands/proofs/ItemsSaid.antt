-- What the items of an array say, by how many there are.
use Rattle.std.proofs.Common.{◌≡◌, List, [], ◌∷◌, length, get_or, refl, sym, ap, ap₂, arith}
use Rattle.std.specs.Prelude.{None, option_and_then}
use Rattle.serde_json.specs.declared.value.Value.{Value}
use Rattle.serde_json.specs.Find.{as_str}
use Rattle.serde_json.specs.View.{view, items_view}
use Rattle.policy_book.specs.Laws.Shapes.{PolicyShape}
use Rattle.wf_commands.specs.Cases.{free_said, said_at, user_said}

pub said_none : (p : PolicyShape) (vs : List Value) → (length vs ≡ 1 → ⊥) → (length vs ≡ 2 → ⊥) → said_at p (items_view vs) ≡ None
said_none p [] h g = refl
said_none p (a ∷ []) h g = absurd (h refl)
said_none p (a ∷ b ∷ []) h g = absurd (g refl)
said_none p (a ∷ b ∷ c ∷ vs) h g = refl

pub said_one : (p : PolicyShape) (vs : List Value) (a : Value) → length vs ≡ 1 → a ≡ get_or vs 0 a
    → said_at p (items_view vs) ≡ option_and_then free_said (as_str (view a))
said_one p [] a h i = absurd (omega (arith, h))
said_one p (x ∷ []) a h i = ap (λ v. option_and_then free_said (as_str (view v))) (sym i)
said_one p (x ∷ y ∷ vs) a h i = absurd (omega (arith, h))

pub said_two : (p : PolicyShape) (vs : List Value) (a b : Value) → length vs ≡ 2 → a ≡ get_or vs 0 a → b ≡ get_or vs 1 b
    → said_at p (items_view vs) ≡ option_and_then (λ w. option_and_then (user_said p w) (as_str (view b))) (as_str (view a))
said_two p [] a b h i j = absurd (omega (arith, h))
said_two p (x ∷ []) a b h i j = absurd (omega (arith, h))
said_two p (x ∷ y ∷ []) a b h i j = ap₂ (λ u v. option_and_then (λ w. option_and_then (user_said p w) (as_str (view v))) (as_str (view u))) (sym i) (sym j)
said_two p (x ∷ y ∷ z ∷ vs) a b h i j = absurd (omega (arith, h))

pub ruleset all_said = (said_none, said_one, said_two)
