-- What bytes are as JSON.
use Rattle.std.proofs.Common.{◌≡◌, List, [], ◌∷◌, length, refl, ap}
use Prim.Native.Nat.{suc}
use Rattle.serde_json.specs.declared.value.Value.{Value}
use Rattle.serde_json.specs.View.{items_view}
use Rattle.wf_commands.specs.Input.{listed_items}

-- an array has as many items as it has values
pub count : (vs : List Value) → length (listed_items (items_view vs)) ≡ length vs
count [] = refl
count (v ∷ vs) = ap suc (count vs)
