-- Inside: what a text is, as it is read without making a value of it.
use Rattle.std.specs.Prelude.{◌≡◌, List, length, Option, Some, None, option_and_then}
use Rattle.json.specs.Token.{Token}
use Rattle.json.specs.Json.{Json, value, members, if_last}
use Rattle.serde_json.specs.Data.{Data, Members, no_members, object}
use Rattle.serde_json.specs.Read.{of_json, of_members, converted}
use Rattle.serde_json.specs.Find.{as_object}
use Rattle.wire_json.specs.declared.flat.Flat.{Flat}
use Rattle.wire_json.specs.declared.flat.Flat.TheVariants.{Parts, NoObject, NoJson, Other}
use Rattle.wire_json.specs.declared.flat.Part.{Part}
use Rattle.wire_json.specs.Objects.{members_of}

-- the value that was read, where nothing follows it
abbrev pub whole : Option (Json × List Token) → Option Data
whole o = option_and_then of_json (option_and_then (λ p. if_last p.0 p.1) o)

-- the members up to the end of an object that has begun, and what follows it
abbrev pub members_behind : List Token → Option (Members × List Token)
members_behind ts = converted (λ ms. of_members ms no_members) (members (value 126) (length ts) ts)

-- what was found, and the parts of an object, are what a text reads as
abbrev pub IsFlat : Flat → List Part → Option Data → Type 0
IsFlat Parts ps o = o ≡ Some (object (members_of ps))
IsFlat NoObject ps o = (d : Data) × (o ≡ Some d) × (as_object d ≡ None)
IsFlat NoJson ps o = o ≡ None
IsFlat Other ps o = Unit {0}
