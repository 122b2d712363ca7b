-- The JSON of names has no number.
use Rattle.std.proofs.Common.{◌≡◌, ℕ, List, [], ◌∷◌, false, refl, ap, ◌∙◌}
use Rattle.std.specs.Prelude.{map}
use Rattle.serde_json.specs.Data.{Data}
use Rattle.serde_json.specs.View.{items_of}
use Rattle.serde_json.specs.Written.{compact_text, has_float, items_have_float}
use Rattle.wire_json.specs.Entries.{named, plan_data}

items_plain : (names : List (List ℕ)) (ns : List ℕ) → items_have_float (items_of (map (named names) ns)) ≡ false
items_plain names [] = refl
items_plain names (n ∷ ns) = items_plain names ns

pub names_plain : (names : List (List ℕ)) (plan : List ℕ) → has_float (plan_data names plan) ≡ false
names_plain names plan = items_plain names plan

-- what is written for them
pub plain_text : (names : List (List ℕ)) (plan : List ℕ) (d : Data) (text : List ℕ) → d ≡ plan_data names plan → (has_float d ≡ false
    → text ≡ compact_text d) → text ≡ compact_text (plan_data names plan)
plain_text names plan d text is written = written (ap has_float is ∙ names_plain names plan) ∙ ap compact_text is
