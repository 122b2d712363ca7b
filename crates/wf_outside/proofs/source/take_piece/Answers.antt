use Rattle.std.proofs.Common.{◌≡◌, ◌++◌, take, rules, arith}
use Rattle.wf_outside.proofs.OutsideLaws.{more_taken, front_at_most}
use Rattle.wf_outside.proofs.source.take_piece.Goals as goal

pub returns-in_err-extend_from_slice-clause-part : goal.returns-in_err-extend_from_slice-clause-part
returns-in_err-extend_from_slice-clause-part g c before taken = grind (arith, front_at_most)

pub returns-clause-more : goal.returns-clause-more
returns-clause-more g c before taken =
    let items : c.extend_from_slice.new.self.items ≡ c.args.bytes.now.items ++ take c.in_ok-count.count c.take_some.new.buf = search rules in
    rw items (more_taken before _ _ c.args.bytes.now.items _ taken c.in_ok-count.ensures.taken)

pub returns-clause-part : goal.returns-clause-part
returns-clause-part g c before taken = grind (arith, front_at_most)
