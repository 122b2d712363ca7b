use Rattle.std.proofs.Common.{◌≡◌, ℕ, List, ◌++◌, Bool, Some}
use Rattle.json.specs.Spaced.{IsGap}
use Rattle.serde_json.specs.Data.{Members, object}
use Rattle.wire_json.specs.Values.{value_of}
use Rattle.wire_json.specs.Plain.{known_members, joint, IsRest}
use Rattle.wire_json.proofs.plain.read_plain.Given as goal

abbrev pub invariant-parts : goal.invariant-parts
invariant-parts l =
    (behind : Bool) × (gap : List ℕ) × IsGap gap
    × ((all : Members) → IsRest behind (known_members l.known) (joint behind gap ++ l.rest) all → value_of l.line ≡ Some (object all))
