use Rattle.std.proofs.Common.{ap, arith}
use Rattle.cnf_export.specs.Laws.Encodings.{rules_blocks}
use Rattle.cnf_export.proofs.Listing.{drop_some}
use Rattle.cnf_export.proofs.grouping.all_blocks.Goals as goal

pub rules-preserved : goal.rules-preserved
rules-preserved c =
    let so_far = c.rules.invariant.so_far in
    let small = c.rules.invariant.small in
    let first = ap rules_blocks (drop_some c.args.rules.now c.rules.k c.get.result.now c.get.ensures) in
    let own = c.blocks_of-block.ensures.value in
    let few = c.blocks_of-block.ensures.few in
    record { so_far = omega (arith, so_far, first, own); small = omega (arith, small, few) }
