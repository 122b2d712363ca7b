-- Inside: the object that a request is read from, as a value of JSON or as the parts that it was
-- read in.
use Rattle.std.specs.Prelude.{List, fold, unwrap_or}
use Rattle.serde_json.specs.Data.{Data, Members, no_members, string, number, unsigned, object, put}
use Rattle.serde_json.specs.Find.{as_object}
use Rattle.serde_json.specs.View.{view}
use Rattle.wire_json.specs.declared.flat.Worth.{Worth}
use Rattle.wire_json.specs.declared.flat.Worth.TheVariants.{Text, Number}
use Rattle.wire_json.specs.declared.flat.Part.{Part}
use Rattle.wire_json.specs.declared.object.Object.{Object}
use Rattle.wire_json.specs.declared.object.Object.TheVariants.{Value, Parts}

-- what stands at a key
abbrev pub worth_data : Worth → Data
worth_data (Text t) = string t.now
worth_data (Number n) = number (unsigned n)

-- members with one more, which takes the place of an earlier one at its key
abbrev pub put_part : Members → Part → Members
put_part ms p = put p.key.now (worth_data p.worth) ms

-- the members of an object that was read part by part
abbrev pub members_of : List Part → Members
members_of ps = fold put_part no_members ps

abbrev pub data_of : Object → Data
data_of (Value v) = view v.now
data_of (Parts ps) = object (members_of ps.now)

-- the members of an object; none of what is none
abbrev pub members_in : Data → Members
members_in d = unwrap_or (as_object d) no_members
