use Rattle.std.proofs.Common.{◌≡◌, ◌≢◌, [], arith, rules}
use Rattle.wire_json.specs.Objects.{members_of}
use Rattle.wire_json.proofs.Flats.{object_read, object_and_more, object_refused}
use Rattle.wire_json.proofs.flat.read_object.Goals as goal

pub returns-then-is_over : goal.returns-then-is_over
returns-then-is_over c =
    let over : c.read_parts.new.reader ≡ [] = search rules in
    object_read c.args.reader.now (members_of c.read_parts.new.parts.items) (rw over at c.in-Ok.ensures.parts)

pub returns-else-is_over : goal.returns-else-is_over
returns-else-is_over c =
    let some : c.read_parts.new.reader ≢ [] = search rules in
    object_and_more c.args.reader.now c.read_parts.new.reader (members_of c.read_parts.new.parts.items) c.in-Ok.ensures.parts some

pub returns-in-Err-NoJson : goal.returns-in-Err-NoJson
returns-in-Err-NoJson c = object_refused c.args.reader.now (c.read_parts.ensures.no_json (grind arith))
