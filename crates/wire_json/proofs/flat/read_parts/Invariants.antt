use Rattle.std.proofs.Common.{◌≡◌, ℕ, ◌≤◌, length}
use Rattle.json.specs.Json.{members, value}
use Rattle.serde_json.specs.Data.{no_members}
use Rattle.serde_json.specs.Read.{of_members, converted}
use Rattle.wire_json.specs.Objects.{members_of}
use Rattle.wire_json.proofs.flat.read_parts.Given as goal

abbrev pub invariant-parts : goal.invariant-parts
invariant-parts l =
    (n : ℕ) × (length l.reader ≤ n)
    × (converted (λ ms. of_members ms no_members) (members (value 126) (length l.fn.reader) l.fn.reader) ≡ converted
    (λ ms. of_members ms (members_of l.parts.items)) (members (value 126) n l.reader))

abbrev pub decreases-parts : goal.decreases-parts
decreases-parts l = length l.reader
