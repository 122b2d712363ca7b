use Rattle.std.proofs.Common.{refl, arith}
use Rattle.std.proofs.iter.Next.{says_at}
use Rattle.std.proofs.lemmas.Grind.{common_steps}
use Rattle.entry_reader.proofs.Uses.{each_item}
use Rattle.entry_reader.proofs.list.each_of.Goals as goal

pub items-preserved : goal.items-preserved
items-preserved g c = λ f reads.
    let is = reads c.item-item.result c.reader.result (says_at g.F.Fn c.reader.ensures refl) in
    grind (arith, common_steps, each_item, c.items.invariant f reads, is)

pub returns-in_err-read : goal.returns-in_err-read
returns-in_err-read g c = λ f reads.
    let is = reads c.item-item.result c.reader.result (says_at g.F.Fn c.reader.ensures refl) in
    grind (arith, common_steps, each_item, c.items.invariant f reads, is)
