use Rattle.std.proofs.Common.{◌≡◌, ◌++◌, take, rules}
use Rattle.std.proofs.KnownBytes.{Consumes-trans}
use Rattle.wf_system.proofs.reading.read_piece.Goals as goal

pub returns-clause-more : goal.returns-clause-more
returns-clause-more g c before taken =
    let items : c.extend_from_slice.new.self.items ≡ c.args.bytes.now.items ++ take c.in-Ok.count c.read.new.buf = search rules in
    rw items (Consumes-trans before _ _ c.args.bytes.now.items _ taken c.in-Ok.ensures.bytes.0)
