use Rattle.std.proofs.Common.{◌≡◌, ◌≢◌, [], rules}
use Rattle.wire_json.proofs.Flats.{whole_read, more_follows}
use Rattle.wire_json.proofs.flat.no_object.Goals as goal

pub returns-then-is_over : goal.returns-then-is_over
returns-then-is_over c ps d o h e =
    let over : c.args.reader.now ≡ [] = search rules in
    (d, whole_read o d (rw over at e), h)

pub returns-else-is_over : goal.returns-else-is_over
returns-else-is_over c ps d o h e =
    let some : c.args.reader.now ≢ [] = search rules in
    more_follows o d c.args.reader.now e some
